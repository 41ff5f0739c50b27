-- What a contract sees of a plain log, and what always holds of it.
use Rattle.std.specs.Prelude.{◌≡◌, ◌^◌, ◌<◌, length}
use Rattle.vub_log.specs.Plain.{Plain, word_count}
use Rattle.vub_log.specs.declared.plain.PlainLog.TheInside.{Inside}

abbrev pub plain_view : Inside → Plain
plain_view a = record { len = a.len; words = a.words.items; counts = a.counts.items }

pub record IsPlain (a : Inside) : Type 0 where
  pub small : a.len < 2 ^ 61
  pub words : length a.words.items ≡ word_count a.len
  pub counts : length a.counts.items ≡ word_count a.len
