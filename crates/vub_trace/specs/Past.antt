-- How much of a run the turns before have told.
use Rattle.std.specs.Prelude.{ℕ, ◌+◌, ◌≤◌}
use Rattle.vub_trace.specs.declared.past.Past.{Past}
use Rattle.vub_trace.specs.declared.kind.Kind.{Kind}
use Rattle.vub_trace.specs.declared.kind.Kind.TheVariants as kind

-- a turn tells one thing at most
pub record IsWithin (p : Past) : Type 0 where
  pub acted : p.acted ≤ p.turns
  pub answered : p.answered ≤ p.turns
  pub called : p.called ≤ p.turns
  pub taken : p.taken ≤ p.turns
  pub used : p.used ≤ p.turns

-- before the first turn
abbrev pub none_past : Past
none_past = record { turns = 0; acted = 0; answered = 0; called = 0; taken = 0; used = 0 }

abbrev pub with_told : Past → Kind → Past
with_told p kind.Act = record p { acted = p.acted + 1 }
with_told p kind.Answer = record p { answered = p.answered + 1 }
with_told p kind.Call = record p { called = p.called + 1 }
with_told p kind.Hear = record p { called = p.called + 1 }
with_told p kind.Take = record p { taken = p.taken + 1 }
with_told p kind.Use = record p { used = p.used + 1 }
with_told p k = p

-- and behind a turn of this kind
abbrev pub past_after : Past → Kind → Past
past_after p k = with_told (record p { turns = p.turns + 1 }) k
