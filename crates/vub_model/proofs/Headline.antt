-- The headline: every run of a valid set-up is faithful, if its schedule has fewer turns than the limit.
use Rattle.std.proofs.Common.{ℕ, ◌<◌, List, [], ◌∷◌, length, refl}
use Rattle.vub_model.specs.declared.constants.Constants.{Constants}
use Rattle.vub_model.specs.declared.play.Play.{Play}
use Rattle.vub_model.specs.declared.setup.Setup.{Setup}
use Rattle.vub_model.specs.Entries.{TakesItsChain, TakesByFlags, KeepsItsEntry, UsesItsReply}
use Rattle.vub_model.specs.Faithful.{IsFaithful}
use Rattle.vub_model.specs.Headline.{asked, takes_of, asked_of, uses_of, IsServed}
use Rattle.vub_model.specs.Opening.{opening, wiring_of}
use Rattle.vub_model.specs.RingRecord.{limit}
use Rattle.vub_model.specs.RunOf.{IsRun}
use Rattle.vub_model.specs.Service.{Meaning}
use Rattle.vub_model.specs.Shared.{ring_at}
use Rattle.vub_model.specs.ValidSetup.{IsValid}
use Rattle.vub_model.specs.World.{World}
use Rattle.vub_model.proofs.Answers.{follows-plans}
use Rattle.vub_model.proofs.Bells.{bells-ring}
use Rattle.vub_model.proofs.ByFlags.{by-flags}
use Rattle.vub_model.proofs.ChainsTaken.{takes-chain}
use Rattle.vub_model.proofs.Confined.{run-is-confined}
use Rattle.vub_model.proofs.Epochs.{epochs-from, opening-from}
use Rattle.vub_model.proofs.FirstPlaces.{places-first}
use Rattle.vub_model.proofs.FlowRuns.{replay-run, Goes, flow-goes, fresh-flow}
use Rattle.vub_model.proofs.Live.{takes-are-live}
use Rattle.vub_model.proofs.LogRuns.{logs-kept}
use Rattle.vub_model.proofs.NoneLost.{none-lost}
use Rattle.vub_model.proofs.Numbers.{fresh-numbered}
use Rattle.vub_model.proofs.OpeningLogs.{none-stands}
use Rattle.vub_model.proofs.Openings.{opening-is-fresh}
use Rattle.vub_model.proofs.OpeningSound.{first-base, opening-sound}
use Rattle.vub_model.proofs.RepliesStand.{keeps-entry, uses-reply}
use Rattle.vub_model.proofs.Served.{served-run}
use Rattle.vub_model.proofs.Sound.{each-sound, sound-run}

module _ {V : Type 0} (m : Meaning V) (constants : Constants) (setup : Setup) (v : V) (turns : List ℕ) (plays : List Play) (z : World V) (short : length turns < limit) (valid : IsValid constants setup) (run : IsRun m turns plays (opening constants setup v) z) where
  abbrev w : World V
  w = opening constants setup v

  -- each queue took its entries once and in order from each base, and used each with the service's reply
  served-from : IsServed m turns plays (opening constants setup v) z
  served-from =
      let fresh = opening-is-fresh constants setup v in
      let sound = opening-sound constants setup v valid (length turns) short in
      let calls = asked m turns plays w in
      let all = served-run m turns plays w z sound.calm [] sound.few sound.invariant (fresh-flow w fresh) (fresh-numbered w fresh) run in
      let goes : (q : ℕ) → Goes z q (takes_of q z.takes) (asked_of q calls) (uses_of q z.uses) = λ q. flow-goes z all.2 q (takes_of q z.takes) (asked_of q calls) (uses_of q z.uses) (ring_at z.shared q).flight refl (all.0 q) in
      let bases = epochs-from m turns plays w z sound.calm (λ q. (ring_at w.shared q).base ∷ []) sound.few sound.invariant (fresh-numbered w fresh) (opening-from w fresh) run in
      record {
        replies = replay-run m turns plays w z run;
        in_order = λ q. (goes q).0;
        out = λ q. (goes q).1;
        numbered = λ q. record { count = (bases q).count; past = (bases q).each; last = (bases q).last; now = (all.1 q).now; none_later = (all.1 q).none_later };
      }

  pub headline-of-setup : IsFaithful m constants setup v turns plays z
  headline-of-setup =
      let sound = opening-sound constants setup v valid (length turns) short in
      record {
        served = served-from;
        given = first-base constants setup v valid;
        counted = (sound-run m turns plays w z sound run).counted;
        reads = record {
          chains = each-sound m TakesItsChain (λ n w p l z s turn. takes-chain n w s m p l z turn) turns plays w z sound run;
          live = takes-are-live m turns plays w z run;
          flags = each-sound m TakesByFlags (λ n w p l z s turn. by-flags n w s p l z) turns plays w z sound run;
        };
        puts = record {
          kept = each-sound m KeepsItsEntry (λ n w p l z s turn. keeps-entry n w s m p l z turn) turns plays w z sound run;
          stand = each-sound m UsesItsReply (λ n w p l z s turn. uses-reply m w p l z turn) turns plays w z sound run;
        };
        confined = run-is-confined m turns plays w;
        logged = logs-kept m turns plays w z sound.logs (none-stands constants setup v) run;
        plans = follows-plans m turns plays w z sound run;
        places = places-first (wiring_of constants (length setup.objects));
        bells = bells-ring m turns plays w z sound run;
        none_lost = none-lost m constants setup v turns plays z short valid run;
      }
