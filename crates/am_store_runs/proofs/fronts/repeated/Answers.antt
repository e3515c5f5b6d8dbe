use Rattle.std.proofs.Common.{arith, sym, ap, ◌∙◌, subst, refl, List, ◌≡◌, ◌≤◌, ◌<◌, ◌++◌, ◌∷◌, [], drop, get_or, ℕ}
use Rattle.std.proofs.lemmas.List.Sums.{prefix_len-le-length}
use Rattle.std.specs.Prelude.{nat_eq}
use Rattle.am_store_runs.proofs.Groups.{alike}
use Rattle.am_store_runs.proofs.Repeats.{IsSharing, sharing_begins, group_alone, group_shared}
use Rattle.am_store_runs.proofs.fronts.repeated.Goals as goal

pub loop-left-init : goal.loop-left-init
loop-left-init c =
    subst (IsSharing c.args.sorted.now c.args.sorted.now) (sym c.new-repeated.ensures.items)
    (sharing_begins c.args.sorted.now c.requires)

pub split_at-requires : goal.split_at-requires
split_at-requires c =
    let left = c.loop-left.left.now in
    let first = get_or left 0 0 in
    let count : c.count_alike.result ≡ alike (λ n. n) first left = c.count_alike.ensures in
    omega (arith, count, prefix_len-le-length (λ n. nat_eq n first) left)

pub loop-left-preserved : goal.loop-left-preserved
loop-left-preserved c =
    let left = c.loop-left.left.now in
    let first = get_or left 0 0 in
    let size = alike (λ n. n) first left in
    let shared = c.loop-left.repeated.items in
    let count : c.count_alike.result ≡ size = c.count_alike.ensures in
    let others : c.split_at.result.1.now ≡ drop size left = c.split_at.ensures.back ∙ ap (λ k. drop k left) count in
    let few : size ≤ 1 = omega (arith, count, c.split_at.ensures.front_len, c.if-group-gt1.false) in
    subst (λ (l : List ℕ). IsSharing c.args.sorted.now l shared) (sym others)
    (group_alone first c.loop-left.invariant c.in-len1-up.len_at_least refl few)

pub loop-left-preserved-in_ok-push : goal.loop-left-preserved-in_ok-push
loop-left-preserved-in_ok-push c =
    let left = c.loop-left.left.now in
    let first = get_or left 0 0 in
    let size = alike (λ n. n) first left in
    let shared = c.loop-left.repeated.items in
    let count : c.count_alike.result ≡ size = c.count_alike.ensures in
    let others : c.split_at.result.1.now ≡ drop size left = c.split_at.ensures.back ∙ ap (λ k. drop k left) count in
    let more : 1 < size = omega (arith, count, c.split_at.ensures.front_len, c.if-group-gt1.true) in
    let pushed : c.push.new.self.items ≡ shared ++ first ∷ [] = c.in_ok-push.ensures.items in
    subst (λ (l : List ℕ). IsSharing c.args.sorted.now l c.push.new.self.items) (sym others)
    (subst (IsSharing c.args.sorted.now (drop size left)) (sym pushed)
    (group_shared first c.loop-left.invariant c.in-len1-up.len_at_least refl more))
