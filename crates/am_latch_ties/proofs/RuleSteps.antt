-- Each step keeps the rule over what was handed out and what was taken.
use Rattle.std.proofs.Common.{◌≡◌, ◌≢◌, ℕ, List, [], ◌∷◌, ◌++◌, length, set, refl, sym, ap, ◌∙◌}
use mathlib.Core.Option.{none, some-ne-none}
use Rattle.atomic_table.specs.Table.{Me, step, keeps, Allows, Splits, Joins, opening}
use Rattle.atomic_table.proofs.Lists.{set_else}
use Rattle.am_law_serial.specs.Trace.{Trace}
use Rattle.am_latch_ties.specs.declared.taker_tie.TakenView.{TakenView}
use Rattle.am_latch_ties.specs.declared.taker_tie.TakenView.TheVariants.{Nothing, Handed, Taken, Whole}
use Rattle.am_latch_ties.specs.HandOutRule.{handed_in, taken_in, IsHandedView, IsTakerView, IsWholeView, IsTakenIn}
use Rattle.am_latch_ties.specs.HandOutRule.{TakersAgree}
use Rattle.am_latch_ties.specs.HandOutRule.{both_views, taker_part, handed_part, HandsOver}
use Rattle.am_latch_ties.proofs.Each.{each_of_set, each_of_end}

pub starts : TakersAgree (opening (0 ∷ []) [] (Whole [] []))
starts = record {
  handing = 0;
  taking = 0;
  events = [];
  each = each_of_end (IsTakenIn 0 0 []) [] (Whole [] []) (λ i v f. absurd (some-ne-none v (sym f)))
      (refl, refl, refl, refl);
}

-- a view that knows nothing: what others know may change
elsewhere : (handing taking handing' taking' by : ℕ) (es es' : Trace) (v : TakenView) → by ≢ handing → by ≢ taking →
    IsTakenIn handing taking es by v → IsTakenIn handing' taking' es' by v
elsewhere handing taking handing' taking' by es es' Nothing far away h = tt
elsewhere handing taking handing' taking' by es es' (Handed fs) far away h = absurd (far h.0)
elsewhere handing taking handing' taking' by es es' (Taken fs) far away h = absurd (away h.0)
elsewhere handing taking handing' taking' by es es' (Whole fs gs) far away h = absurd (far h.0)

pub joins : (id other : ℕ) (v w : TakenView) → IsTakerView v → IsHandedView w →
    Joins TakersAgree id v other w (both_views v w) Nothing
joins id other (Taken fs) (Handed es) _ _ s h at apart there =
    let mine = h.each id (Taken fs) at in
    let theirs = h.each other (Handed es) (sym (set_else s.views id other (Whole es fs) apart) ∙ there) in
    let all = IsTakenIn id id h.events in
    record {
      handing = id;
      taking = id;
      events = h.events;
      each = each_of_set all (set s.views id (Whole es fs)) other Nothing (λ i u far f. each_of_set
          (λ j x. j ≢ other → all j x) s.views id (Whole es fs) (λ j x off g away. elsewhere h.handing h.taking id id j
          h.events h.events x (λ b. away (b ∙ sym theirs.0)) (λ b. off (b ∙ sym mine.0)) (h.each j x g))
          (λ _. (refl, theirs.1, refl, mine.1)) i u f far) tt;
    }
joins id other v w takes hand s h at apart there = absurd (cc)

-- the taker's token, once it has joined
pub joined : (me me' : Me ℕ TakenView) (w : TakenView) → IsTakerView me.0 → IsHandedView w →
    me' ≡ (both_views me.0 w, me.1) → me' ≡ (Whole (handed_in w) (taken_in me.0), me.1)
joined me me' w takes hand is = is ∙ (λ i. (both_views (takes i) (hand i), me.1))

pub hands : (slots id : ℕ) (v : TakenView) (state : List (ℕ × ℕ)) (new : Trace) → IsWholeView v →
    Allows TakersAgree slots id (v, state) 0 (λ n. n) (HandsOver new (step slots 0 0 0 none) (v, state))
hands slots id (Whole es fs) state new _ s h long at fits =
    let mine = h.each id (Whole es fs) at in
    let w = Whole (es ++ new) (fs ++ new) in (
      w,
      keeps,
      tt,
      record {
        handing = h.handing;
        taking = h.taking;
        events = h.events ++ new;
        each = each_of_set (IsTakenIn h.handing h.taking (h.events ++ new)) s.views id w
            (λ j u off f. elsewhere h.handing h.taking _ _ j h.events (h.events ++ new) u (λ b. off (b ∙ sym mine.0))
            (λ b. off (b ∙ sym mine.2)) (h.each j u f))
            (mine.0, ap (λ (l : Trace). l ++ new) mine.1, mine.2, ap (λ (l : Trace). l ++ new) mine.3);
      },
      (refl, mine.3 ∙ sym mine.1),
    )
hands slots id v state new is s h long at fits = absurd (cc)

pub splits : (id : ℕ) (v : TakenView) (es fs : Trace) → v ≡ Whole es fs →
    Splits TakersAgree id v (taker_part v) (handed_part v)
splits id (Whole es fs) _ _ _ s h at =
    let mine = h.each id (Whole es fs) at in
    let vs = set s.views id (Taken fs) in
    let all = IsTakenIn (length vs) h.taking h.events in
    record {
      handing = length vs;
      taking = h.taking;
      events = h.events;
      each = each_of_end all vs (Handed es) (each_of_set all s.views id (Taken fs)
          (λ j u off f. elsewhere h.handing h.taking (length vs) _ j h.events h.events u (λ b. off (b ∙ sym mine.0))
          (λ b. off (b ∙ sym mine.2)) (h.each j u f)) (mine.2, mine.3))
          (refl, mine.1);
    }
splits id v es fs is s h at = absurd (cc)
