use Rattle.std.proofs.Common.{◌≡◌, ap, ◌∙◌}
use Rattle.am_record.specs.KeyFront.{key_front}
use Rattle.am_record.specs.OrderedKey.{key_cmp}
use Rattle.am_store_scan.specs.Directions.{order_in}
use Rattle.am_store_scan.specs.Heads.{Stand}
use Rattle.am_store_scan.proofs.FirstHeads.{fronts_tell, turned_order}
use Rattle.am_store_scan.proofs.head.HeadOrd.cmp.Goals as goal
use Rattle.am_store_scan.proofs.head.HeadOrd.cmp.Goals.{in-Equal, in_default}

pub returns : goal.returns
returns g c =
    let back = g.D.Direction.is_back in
    let key = c.args.self.now.key in
    let other = c.args.other.now.key in
    let compared : c.match-cmp.order ≡ key_cmp other key = elim c.match-cmp.branch [
      | in-Equal w ↦ w.order-is ∙ w.cmp-order.ensures ∙ ap (λ k. key_cmp k w.key-in-Equal.result) w.key.ensures ∙
          ap (key_cmp other) w.key-in-Equal.ensures
      | in_default w ↦ w.order-is ∙ fronts_tell c.fronts_follow_keys.ensures other key c.other.inside.front
          c.self.inside.front (c.other.invariant.2 ∙ ap (λ (h : Stand). key_front h.key) c.other.view_is)
          (c.self.invariant.2 ∙ ap (λ (h : Stand). key_front h.key) c.self.view_is) c.cmp.result c.cmp.ensures
          w.in_default.not-Equal
    ] in
    c.order.ensures ∙ ap (order_in back) compared ∙ turned_order back other key
