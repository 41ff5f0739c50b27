-- Workers that are told to end, one after the other.
use Rattle.std.proofs.Common.{◌≡◌, List, [], ◌∷◌, ◌++◌, inl, inr, refl, sym, ◌∙◌, subst, arith}
use Rattle.vub_model.specs.declared.wiring.Opened.{Opened}
use Rattle.vub_model.specs.Shared.{Shared, raised_or_none}
use Rattle.vub_vring.specs.PartsState.{PartsState, HasFailed}
use Rattle.vub_loop.specs.Faults.{RowOrFault}
use Rattle.vub_loop.specs.Listening.{SendsExit, ExitFrame}
use Rattle.vub_handler.specs.Exits.{EndsEach, EndsAll}
use Rattle.vub_handler.proofs.Opening.{told-on, told-same}

wider : (Sound Sure Rise Rises Row After : Type 0) → (Sure → Sound) → (Rise → Rises) → RowOrFault Sound Rise Row After → RowOrFault Sure Rises Row After
wider Sound Sure Rise Rises Row After sure rises row = record {
  row = elim row.row [ inl made ↦ inl made | inr failed ↦ inr (rises failed.0, failed.1) ];
  sound = λ is. row.sound (sure is);
}

ends-more : {V : Type 0} (Sound Mid Rise Rises All : Type 0) (ws : List Opened) (w : Opened) (a b d : Shared V) → (Sound → Mid) → (Rise → All) → (Rises → All) → EndsEach Sound Rise ws a b → RowOrFault Mid Rises (d ≡ raised_or_none b w.exit) (d ≡ b) → EndsEach Sound All (ws ++ w ∷ []) a d
ends-more {V} Sound Mid Rise Rises All [] w a b d sound rise rises first then =
    let H : Shared V → Type 0 = λ h. RowOrFault Sound All (d ≡ raised_or_none h w.exit) (d ≡ h) in
    (d, subst H first (wider Mid Sound Rises All _ _ sound rises then), refl)
ends-more Sound Mid Rise Rises All (x ∷ ws) w a b d sound rise rises first then = (first.0, wider Sound Sound Rise All _ _ (λ s. s) rise first.1, ends-more Sound Mid Rise Rises All ws w first.0 b d sound rise rises first.2 then)

-- these workers were told to end
pub record Ended {V D : Type 0} (ws : List Opened) (old new : PartsState V D) : Type 0 where
  pub row : EndsAll ws old new
  pub frame : ExitFrame old new

pub ended-none : {V D : Type 0} (state : PartsState V D) (ws : List Opened) → ws ≡ [] → Ended ws state state
ended-none state ws none =
    let P : List Opened → Type 0 = λ l. Ended l state state in
    subst P (sym none) record {
      row = told-same state.shared _ (λ h. refl);
      frame = record {
        device = refl;
        refusals = refl;
        lasts = record { later = omega (arith); refusals = omega (arith); still = λ s. s; loan = refl; constants = refl };
      };
    }

pub ended-more : {V D : Type 0} (ws more : List Opened) (w : Opened) (old mid new : PartsState V D) → Ended ws old mid → SendsExit w.exit mid new → ExitFrame mid new → more ≡ ws ++ w ∷ [] → Ended more old new
ended-more {V} {D} ws more w old mid new first row frame is =
    let P : List Opened → Type 0 = λ l. Ended l old new in
    let lasts = first.frame.lasts in
    let then = frame.lasts in
    subst P (sym is) record {
      row = told-on old.shared mid.shared new.shared _ _ _ (λ a b d x y. ends-more old.NeverFails mid.NeverFails (HasFailed old mid) (HasFailed mid new) (HasFailed old new) ws w a b d lasts.still (λ rose. let l = then.later in omega (arith, l, rose)) (λ rose. let l = lasts.later in omega (arith, l, rose)) x y) first.row row;
      frame = record {
        device = frame.device ∙ first.frame.device;
        refusals = frame.refusals ∙ first.frame.refusals;
        lasts = record {
          later = (let a = lasts.later in let b = then.later in omega (arith, a, b));
          refusals = (let a = lasts.refusals in let b = then.refusals in omega (arith, a, b));
          still = λ s. then.still (lasts.still s);
          loan = then.loan ∙ lasts.loan;
          constants = then.constants ∙ lasts.constants;
        };
      };
    }
