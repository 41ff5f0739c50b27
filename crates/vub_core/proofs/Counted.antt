-- Stops and counts, one worker or object after the other.
use Rattle.std.proofs.Common.{◌≡◌, ℕ, ◌+◌, ◌<◌, List, ◌++◌, length, map, get_or, drop, Option, append_assoc, sym, ap, ◌∙◌}
use Rattle.std.proofs.lemmas.List.{drop_more}
use Rattle.std.specs.Option.{option_to_list}
use Rattle.vub_event.specs.HostTable.{HostTable}
use Rattle.vub_model.specs.declared.records.Count.{Count}
use Rattle.vub_model.specs.declared.records.Stop.{Stop}
use Rattle.vub_model.specs.declared.setup.Object.{Object}
use Rattle.vub_model.specs.RunRecords.{stop_of, stops_from, count_of_object, counts_from}
use Rattle.vub_loop.specs.Worker.{Worker}
use Rattle.vub_loop.specs.Handler.{phase_of}

pub stops_next : (workers : List Worker) (number : ℕ) (d : Worker) (stops next goal : List Stop) (one : Option Stop) → number < length workers → stops ++ stops_from number (map (λ w. phase_of w) (drop number workers)) ≡ goal → option_to_list one ≡ stop_of number (phase_of (get_or workers number d)) → next ≡ stops ++ option_to_list one → next ++ stops_from (number + 1) (map (λ w. phase_of w) (drop (number + 1) workers)) ≡ goal
stops_next workers number d stops next goal one within so is push =
    ap (λ l. l ++ stops_from (number + 1) (map (λ w. phase_of w) (drop (number + 1) workers))) (push ∙ ap (λ l. stops ++ l) is)
    ∙ append_assoc stops (stop_of number (phase_of (get_or workers number d))) (stops_from (number + 1) (map (λ w. phase_of w) (drop (number + 1) workers)))
    ∙ ap (λ l. stops ++ stops_from number (map (λ w. phase_of w) l)) (sym (drop_more workers number d within))
    ∙ so

pub counts_next : (table : HostTable) (objects : List Object) (number : ℕ) (d : Object) (counts next goal : List Count) (one : Option Count) → number < length objects → counts ++ counts_from table number (drop number objects) ≡ goal → option_to_list one ≡ count_of_object table number (get_or objects number d) → next ≡ counts ++ option_to_list one → next ++ counts_from table (number + 1) (drop (number + 1) objects) ≡ goal
counts_next table objects number d counts next goal one within so is push =
    ap (λ l. l ++ counts_from table (number + 1) (drop (number + 1) objects)) (push ∙ ap (λ l. counts ++ l) is)
    ∙ append_assoc counts (count_of_object table number (get_or objects number d)) (counts_from table (number + 1) (drop (number + 1) objects))
    ∙ ap (λ l. counts ++ counts_from table number l) (sym (drop_more objects number d within))
    ∙ so
