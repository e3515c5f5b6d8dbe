-- Pieces that were taken one after another.
use Rattle.std.proofs.Common.{◌≡◌, ℕ, ◌+◌, ◌≤◌, List, [], ◌++◌, length, sym, ap, ◌∙◌, subst, arith}
use Rattle.std.proofs.Common.{append_assoc, append-nil, length-append}
use Rattle.am_law_serial.specs.Trace.{Trace}
use Rattle.am_trace_writer.specs.Events.{add_count}
use Rattle.am_serve_drain.specs.Pieces.{HasTaken}

pub counted_both : (m x y : ℕ) → add_count (add_count m x) y ≡ add_count m (x + y)
counted_both m x y = omega arith

counted_none : (m : ℕ) → m ≤ 18446744073709551615 → m ≡ add_count m 0
counted_none m few = omega (arith, few)

module _ {T : Type 0} (took : T → Trace → T → Type 0) where
  pub taken_none : (r : Trace) (a : T) (m : ℕ) → m ≤ 18446744073709551615 → took a [] a → HasTaken took r a m r a m
  taken_none r a m few none = record {
    piece = [];
    longer = sym (append-nil r);
    passed = none;
    count = counted_none m few;
  }

  pub taken_both : ((a b c : T) (x y : Trace) → took a x b → took b y c → took a (x ++ y) c) → (r s t : Trace)
      (a b c : T) (m n o : ℕ) → HasTaken took r a m s b n → HasTaken took s b n t c o → HasTaken took r a m t c o
  taken_both both r s t a b c m n o f h = record {
    piece = f.piece ++ h.piece;
    longer = h.longer ∙ ap (λ l. l ++ h.piece) f.longer ∙ append_assoc r f.piece h.piece;
    passed = both a b c f.piece h.piece f.passed h.passed;
    count = h.count ∙ ap (λ k. add_count k (length h.piece)) f.count ∙
        counted_both m (length f.piece) (length h.piece) ∙ ap (add_count m) (sym (length-append f.piece h.piece));
  }

  -- what was taken in a further round, after which nothing of it changed
  pub taken_next : ((a b c : T) (x y : Trace) → took a x b → took b y c → took a (x ++ y) c) → (r s t t' : Trace)
      (a b c c' : T) (m n o o' : ℕ) → HasTaken took r a m s b n → HasTaken took s b n t c o →
      (t' ≡ t) × (c' ≡ c) × (o' ≡ o) → HasTaken took r a m t' c' o'
  taken_next both r s t t' a b c c' m n o o' f h same =
      let all = taken_both both r s t a b c m n o f h in
      record {
        piece = all.piece;
        longer = same.0 ∙ all.longer;
        passed = subst (λ (x : T). took a all.piece x) (sym same.1) all.passed;
        count = same.2 ∙ all.count;
      }

  -- what was taken since a beginning, before which nothing was
  pub taken_at_first : (r s : Trace) (a b c : T) (m n : ℕ) → r ≡ [] → a ≡ c → m ≡ 0 → HasTaken took r a m s b n →
      HasTaken took [] c 0 s b n
  taken_at_first r s a b c m n none same new f = record {
    piece = f.piece;
    longer = f.longer ∙ ap (λ l. l ++ f.piece) none;
    passed = subst (λ (d : T). took d f.piece b) same f.passed;
    count = f.count ∙ ap (λ k. add_count k (length f.piece)) new;
  }
