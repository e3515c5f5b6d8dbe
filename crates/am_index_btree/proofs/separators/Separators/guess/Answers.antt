use Rattle.std.proofs.Common.{◌≡◌, ℕ, Bool, ◌+◌, ◌≤◌, List, length, take, drop, arith, ap, ◌∙◌}
use Rattle.std.specs.Prelude.{nat_lt, count_by}
use Rattle.std.proofs.lemmas.List.{length-take, length-drop, length-map}
use Rattle.std.proofs.lemmas.List.Sums.{count_by-le-length}
use Rattle.am_index.proofs.Searches.{whole_rest}
use Rattle.am_index_btree.specs.Fronts.{place_front}
use Rattle.am_index_btree.specs.Separators.{separator_place}
use Rattle.am_index_btree.proofs.separators.Separators.guess.Goals as goal

-- what is behind the first few is no longer than that
few : (p : ℕ → Bool) (n : ℕ) (fs : List ℕ) → n ≤ length fs → n + count_by p (take 8 (drop n fs)) ≤ length fs
few p n fs within = omega (
  arith,
  within,
  count_by-le-length p (take 8 (drop n fs)),
  length-take 8 (drop n fs),
  length-drop n fs,
)

pub returns : goal.returns
returns c some =
    let fs = c.deref.result.now in let n = c.min-from.result in
    let p : ℕ → Bool = λ other. nat_lt other c.saturating_add.result in
    let lower : c.count_in_group-lower.result ≡ count_by p (take 8 (drop n fs)) = c.count_in_group-lower.ensures
    ∙ ap (λ l. count_by p (take 8 l)) (whole_rest n fs) in
    let all : length fs ≡ length c.args.self.now = ap length (c.deref.ensures.value ∙ c.self.invariant.0)
    ∙ length-map c.self.inside.places.items (λ l. place_front (separator_place l)) ∙ ap length c.self.view_is in
    omega (
      arith,
      some,
      all,
      few p n fs (omega (arith, c.min-from.ensures, c.len.ensures, c.deref.ensures.len)),
      lower,
      c.saturating_add-2.ensures,
      c.saturating_sub.ensures,
    )
