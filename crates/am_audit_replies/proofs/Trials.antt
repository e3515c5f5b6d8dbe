-- Operations that are tried above a savepoint, and the way back.
use Rattle.std.proofs.Common.{◌≡◌, ℕ, suc, ◌+◌, ◌-◌, ◌≤◌, ◌<◌, arith, List, [], ◌∷◌, length, refl, sym, ap, ◌∙◌}
use Rattle.am_record.specs.declared.step.Op.{Op}
use Rattle.am_record.specs.declared.step.Op.TheVariants.{Back}
use Rattle.am_record.specs.Plain.{PlainMap, Draft, fresh, draft_after}
use Rattle.am_audit_replies.specs.Trials.{above, backs, HasTried}

-- what is saved below is nothing to an operation that goes back to none but the transaction's own
tried : (op : Op) (x : PlainMap) (saved : List PlainMap) (m : PlainMap) → (saved ≡ [] → op ≡ Back → ⊥) →
    draft_after op (above (record { map = x; saved = saved }) m) ≡
    above (draft_after op (record { map = x; saved = saved })) m
tried Back x [] m own = absurd (own refl refl)
tried Back x (y ∷ saved) m own = refl
tried op x saved m own = refl

-- as often as there are savepoints above, and once more
all_back : (x : PlainMap) (saved : List PlainMap) (m : PlainMap) →
    draft_after Back (backs (length saved) (above (record { map = x; saved = saved }) m)) ≡ fresh m
all_back x [] m = refl
all_back x (y ∷ saved) m = all_back y saved m

pub went_back : (now : Draft) (marks : ℕ) (d : Draft) (m : PlainMap) → HasTried now marks d m →
    draft_after Back (backs marks now) ≡ fresh m
went_back now marks d m h = (λ i. draft_after Back (backs (h.count i) (h.stands i))) ∙ all_back d.map d.saved m

-- one Back more, of so many
pub one_back : (n i : ℕ) (now next d : Draft) → i < n → next ≡ draft_after Back now → backs (n - i) now ≡ d →
    backs (n - (i + 1)) next ≡ d
one_back n i now next d less is h =
    let same : n - i ≡ suc (n - (i + 1)) = omega (arith, less) in
    ap (backs (n - (i + 1))) is ∙ sym (ap (λ k. backs k now) same) ∙ h

pub no_back : (n i : ℕ) (now d : Draft) → n ≤ i → backs (n - i) now ≡ d → now ≡ d
no_back n i now d past h =
    let same : n - i ≡ 0 = omega (arith, past) in
    sym (ap (λ k. backs k now) same) ∙ h
