-- The text of a run: the line of the turns, then the answers, the calls of the device, the entries taken, the uses, the
-- stops, the counts, the bytes written, the logs of dirty pages and the harvests, each list in its own order.
use Rattle.std.specs.Prelude.{ℕ, List, ◌++◌, length, sum_by, codes, decimal}
use Rattle.std.specs.List.{flat_map}
use Rattle.vub_model.specs.declared.run.Run.{Run}
use Rattle.vub_text.specs.Lines.{turns_line, answer_lines, device_line, take_line, use_line, stop_line, count_line}
use Rattle.vub_text.specs.Lines.{write_line, log_line, harvest_line}
use Rattle.vub_text.specs.Words.{yes_no}

unfoldable pub run_text : Run → List ℕ
run_text r =
    turns_line r.labels r.rest ++ answer_lines 0 r.answers ++ flat_map device_line r.device ++
    flat_map take_line r.takes ++ flat_map use_line r.uses ++ flat_map stop_line r.stops ++
    flat_map count_line r.counts ++ flat_map write_line r.written ++ flat_map log_line r.logs ++
    flat_map harvest_line r.harvests

-- how many bytes the replies have together
abbrev pub reply_total : Run → ℕ
reply_total r = sum_by (λ u. length u.reply) r.uses

abbrev pub summary_counts : ℕ → Run → List ℕ
summary_counts count r =
    codes "make " ++ decimal count ++ codes " turns " ++ decimal (length r.labels) ++ codes " takes "
    ++ decimal (length r.takes)

abbrev pub summary_end : Run → List ℕ
summary_end r =
    codes " uses " ++ decimal (length r.uses) ++ codes " bytes " ++ decimal (reply_total r) ++ codes " rest "
    ++ yes_no r.rest ++ codes "\n"

-- the summary of the run of a generated script: how many entries were asked for, how many turns there were, how many
-- entries were taken and used, the bytes of the replies, and whether all is at rest
unfoldable pub summary_text : ℕ → Run → List ℕ
summary_text count r = summary_counts count r ++ summary_end r
