-- A run with one turn more.
use Rattle.std.proofs.Common.{◌≡◌, ℕ, ◌+◌, ◌<◌, ◌≤◌, List, [], ◌∷◌, ◌++◌, length, map, take, get_or, refl, sym, ap, subst, ◌∙◌, arith, append-nil, append_assoc}
use Rattle.std.proofs.lemmas.List.{take_more, take_all, map_push, map-append}
use Rattle.vub_model.specs.declared.label.Label.{Label}
use Rattle.vub_model.specs.declared.play.Play.{Play}
use Rattle.vub_model.specs.declared.records.DeviceCall.{DeviceCall}
use Rattle.vub_model.specs.DeviceCalls.{Call, Telling, label_of, call_at, calls, device_call}
use Rattle.vub_model.specs.Service.{Meaning}
use Rattle.vub_model.specs.World.{World}
use Rattle.vub_model.specs.RunOf.{Turn, IsRun, IsLeast, PollsLeast, party_of, next}
use Rattle.vub_model.proofs.Turns.{turn-next}
use Rattle.vub_core.specs.DeviceRun.{DeviceState, HasMade}
use Rattle.vub_core.specs.Played.{HasPlayed, WasCutShort}
use Rattle.vub_core.specs.Turned.{HasTurned}
use Rattle.vub_core.proofs.Made.{made-append, made-same}
use Rattle.vub_core.proofs.Replies.{fits-more}

run-more : {V : Type 0} (m : Meaning V) (turns : List ℕ) (plays : List Play) (w z end : World V) (turn : ℕ) (l : Play) → IsRun m turns plays w z → Turn m z (party_of turn) l end → IsRun m (turns ++ turn ∷ []) (plays ++ l ∷ []) w end
run-more {V} m [] [] w z end turn l run t = (end, (let P : World V → Type 0 = λ x. Turn m x (party_of turn) l end in subst P run t), refl)
run-more m [] (l' ∷ plays) w z end turn l run t = absurd run
run-more m (turn' ∷ turns) [] w z end turn l run t = absurd run
run-more m (turn' ∷ turns) (l' ∷ plays) w z end turn l run t = (run.0, run.1, run-more m turns plays run.0 z end turn l run.2 t)

least-more : {V : Type 0} (m : Meaning V) (turns : List ℕ) (plays : List Play) (w z : World V) (turn : ℕ) (l : Play) → IsRun m turns plays w z → PollsLeast m turns plays w → IsLeast z (party_of turn) l → PollsLeast m (turns ++ turn ∷ []) (plays ++ l ∷ []) w
least-more {V} m [] [] w z turn l run polls least = ((let P : World V → Type 0 = λ x. IsLeast x (party_of turn) l in subst P run least), tt)
least-more m [] (l' ∷ plays) w z turn l run polls least = absurd run
least-more m (turn' ∷ turns) [] w z turn l run polls least = absurd run
least-more {V} m (turn' ∷ turns) (l' ∷ plays) w z turn l run polls least =
    let is = turn-next m w (party_of turn') l' run.0 run.1 in
    let R : World V → Type 0 = λ x. IsRun m turns plays x z in
    (polls.0, least-more m turns plays (next m w (party_of turn') l') z turn l (subst R is run.2) polls.1 least)

calls-more : {V : Type 0} (m : Meaning V) (turns : List ℕ) (plays : List Play) (w z : World V) (turn : ℕ) (l : Play) → IsRun m turns plays w z → calls m (turns ++ turn ∷ []) (plays ++ l ∷ []) w ≡ calls m turns plays w ++ call_at z (party_of turn) l
calls-more m [] [] w z turn l run = append-nil (call_at w (party_of turn) l) ∙ ap (λ x. call_at x (party_of turn) l) (sym run)
calls-more m [] (l' ∷ plays) w z turn l run = absurd run
calls-more m (turn' ∷ turns) [] w z turn l run = absurd run
calls-more {V} m (turn' ∷ turns) (l' ∷ plays) w z turn l run =
    let is = turn-next m w (party_of turn') l' run.0 run.1 in
    let R : World V → Type 0 = λ x. IsRun m turns plays x z in
    let first = call_at w (party_of turn') l' in
    ap (λ cs. first ++ cs) (calls-more m turns plays (next m w (party_of turn') l') z turn l (subst R is run.2))
    ∙ sym (append_assoc first (calls m turns plays (next m w (party_of turn') l')) (call_at z (party_of turn) l))

module _ {V D : Type 0} (m : Meaning V) (t : Telling D) (schedule : List ℕ) where
  pub played-none : (w : World V) (labels : List Label) (recorded : List DeviceCall) (d : DeviceState D) → labels ≡ [] → recorded ≡ [] → HasPlayed m t [] labels recorded w w d d
  played-none w labels recorded d is none = record { plays = []; labels_are = is; recorded_are = none; is_run = refl; least = tt; made = made-same t d d refl; fits = tt }

  pub played-more : (labels next-labels : List Label) (recorded next-recorded : List DeviceCall) (w z end : World V) (d e f : DeviceState D) (index none : ℕ) (label : Label) → index < length schedule → HasPlayed m t (take index schedule) labels recorded w z d e → HasTurned m t (party_of (get_or schedule index none)) label z end recorded next-recorded e f → next-labels ≡ labels ++ label ∷ [] → HasPlayed m t (take (index + 1) schedule) next-labels next-recorded w end d f
  played-more labels next-labels recorded next-recorded w z end d e f index none label within so its push =
      let party = get_or schedule index none in
      let l = its.play in
      let front = take index schedule in
      let more : take (index + 1) schedule ≡ front ++ party ∷ [] = take_more schedule index none within in
      let P : List ℕ → Type 0 = λ ts. HasPlayed m t ts next-labels next-recorded w end d f in
      let C : List Call → Type 0 = λ cs. HasMade t d f cs in
      let longer = calls-more m front so.plays w z party l so.is_run in
      subst P (sym more) (record {
        plays = so.plays ++ l ∷ [];
        labels_are = push ∙ ap (λ x. labels ++ x ∷ []) its.label_is ∙ ap (λ ls. ls ++ label_of l ∷ []) so.labels_are ∙ sym (map_push (λ p. label_of p) so.plays l);
        recorded_are =
            its.recorded_is
            ∙ ap (λ cs. cs ++ map device_call (call_at z (party_of party) l)) so.recorded_are
            ∙ sym (map-append device_call (calls m front so.plays w) (call_at z (party_of party) l))
            ∙ ap (λ cs. map device_call cs) (sym longer);
        is_run = run-more m front so.plays w z end party l so.is_run its.turn;
        least = least-more m front so.plays w z party l so.is_run so.least its.least;
        made = subst C (sym longer) (made-append t (calls m front so.plays w) (call_at z (party_of party) l) d e f so.made its.made);
        fits = fits-more m front so.plays w z party l so.is_run so.fits its.fits;
      })

  pub played-all : (labels : List Label) (recorded : List DeviceCall) (w z : World V) (d e : DeviceState D) (index : ℕ) → length schedule ≤ index → HasPlayed m t (take index schedule) labels recorded w z d e → HasPlayed m t schedule labels recorded w z d e
  played-all labels recorded w z d e index past so = let P : List ℕ → Type 0 = λ ts. HasPlayed m t ts labels recorded w z d e in subst P (take_all index schedule past) so

  -- want of memory at a turn, which has made no call of the device
  pub cut-short : (labels now : List Label) (recorded : List DeviceCall) (w z : World V) (d e f : DeviceState D) (index : ℕ) (end : V) → index ≤ length schedule → length labels ≡ index → HasPlayed m t (take index schedule) labels recorded w z d e → now ≡ labels → end ≡ z.shared.service → HasMade t e f [] → WasCutShort m t schedule now w end d f
  cut-short labels now recorded w z d e f index end within count so same value made =
      let P : List Label → Type 0 = λ ls. WasCutShort m t schedule ls w end d f in
      let front = take index schedule in
      let C : List Call → Type 0 = λ cs. HasMade t d f cs in
      let played : HasPlayed m t front labels recorded w z d f = record {
        plays = so.plays;
        labels_are = so.labels_are;
        recorded_are = so.recorded_are;
        is_run = so.is_run;
        least = so.least;
        made = subst C (append-nil (calls m front so.plays w)) (made-append t (calls m front so.plays w) [] d e f so.made made);
        fits = so.fits;
      } in
      let N : ℕ → Type 0 = λ n. HasPlayed m t (take n schedule) labels recorded w z d f in
      subst P (sym same) (record {
        closing = z;
        recorded = recorded;
        within = omega (arith, count);
        front = subst N (sym count) played;
        value = value;
      })
