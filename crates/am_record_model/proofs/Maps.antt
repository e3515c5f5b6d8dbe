-- A map of std as a finite map.
use Rattle.std.proofs.Common.{◌≡◌, List, [], ◌∷◌, Some, None, cond, refl, ap, sym, ◌∙◌}
use Rattle.std.specs.Map.{lookup}
use Rattle.std.specs.Ordering.{eq_by_cmp, is_eq}
use Rattle.std.specs.Cmp.{eq_by_cmp_equiv}
use Rattle.std.specs.FinMap.{get, insert, remove, from_entries, find, get-from_entries, get-insert, get-remove}
use Rattle.std.specs.FinMap.{same_map}
use Rattle.am_record.specs.OrderedKey.{OrderedKey, key_cmp, key_cmp-total, key_cmp-exact}

module _ {X : Type 0} where
  pub found_where : (es : List (OrderedKey × X)) (q : OrderedKey) → lookup (λ k. is_eq (key_cmp q k)) es ≡ find key_cmp
      q es
  found_where [] q = refl
  found_where (e ∷ es) q = ap (cond (eq_by_cmp key_cmp q e.0) (Some e.1)) (found_where es q)

  pub got_where : (es : List (OrderedKey × X)) (q : OrderedKey) → lookup (λ k. is_eq (key_cmp q k)) es ≡ get
      (from_entries {R = key_cmp} es) q
  got_where es q = found_where es q ∙ sym (get-from_entries key_cmp-total es q)

  -- a list that looks up like another with one more key is the map with that key
  pub put_is_insert : (es es' : List (OrderedKey × X)) (k : OrderedKey) (v : X) →
      ((q : OrderedKey) → lookup (λ x. is_eq (key_cmp q x)) es' ≡ cond (is_eq (key_cmp k q)) (Some v)
      (lookup (λ x. is_eq (key_cmp q x)) es)) →
      from_entries {R = key_cmp} es' ≡ insert (from_entries {R = key_cmp} es) k v
  put_is_insert es es' k v looks = same_map key_cmp-total key_cmp-exact _ _ (λ q. sym (got_where es' q) ∙ looks q ∙
      ap (λ b. cond b (Some v) (lookup (λ x. is_eq (key_cmp q x)) es)) (turned q) ∙
      ap (cond (eq_by_cmp key_cmp q k) (Some v)) (got_where es q) ∙
      sym (get-insert key_cmp-total (from_entries es) k v q))
    where
      turned : (q : OrderedKey) → is_eq (key_cmp k q) ≡ is_eq (key_cmp q k)
      turned q = (eq_by_cmp_equiv key_cmp-total).symm k q

  -- a list that looks up like another without a key is the map without it
  pub taken_is_remove : (es es' : List (OrderedKey × X)) (k : OrderedKey) →
      ((q : OrderedKey) → lookup (λ x. is_eq (key_cmp q x)) es' ≡ cond (is_eq (key_cmp k q)) None
      (lookup (λ x. is_eq (key_cmp q x)) es)) →
      from_entries {R = key_cmp} es' ≡ remove (from_entries {R = key_cmp} es) k
  taken_is_remove es es' k looks = same_map key_cmp-total key_cmp-exact _ _ (λ q. sym (got_where es' q) ∙ looks q ∙
      ap (λ b. cond b None (lookup (λ x. is_eq (key_cmp q x)) es)) (turned q) ∙ ap (cond (eq_by_cmp key_cmp q k) None)
      (got_where es q) ∙ sym (get-remove key_cmp-total (from_entries es) k q))
    where
      turned : (q : OrderedKey) → is_eq (key_cmp k q) ≡ is_eq (key_cmp q k)
      turned q = (eq_by_cmp_equiv key_cmp-total).symm k q
