use Rattle.std.proofs.Common.{◌≡◌, ◌*◌, ◌≤◌, ◌++◌, length, refl, ap, ◌∙◌, subst, arith}
use Rattle.am_c_steps.specs.Structs.{AreWholeStructs}
use Rattle.am_c_steps.proofs.StructCopies.{inside, longer, one_more, all_copied}
use Rattle.am_c_steps.proofs.structs_copy.copied.Goals as goal

pub struct_at-requires : goal.struct_at-requires
struct_at-requires c = inside _ _ _ c.requires.whole _ refl _ c.requires.spots c.loop-spot.spot-index
    c.loop-spot-test.true _

pub loop-spot-preserved : goal.loop-spot-preserved
loop-spot-preserved c =
    let i = c.loop-spot.spot-index in
    let pushed = c.in_ok-extend_from_slice.ensures.items
    ∙ ap (λ one. c.loop-spot.copied.items ++ one) c.struct_at.ensures in
    record {
      long = longer _ _ _ c.requires.whole _ refl _ c.requires.spots i c.loop-spot-test.true _ _ _ pushed
          c.loop-spot.invariant.long;
      are = one_more _ _ _ c.requires.whole _ refl _ c.requires.spots i c.loop-spot-test.true _ _ _ pushed
          c.loop-spot.invariant.long c.loop-spot.invariant.are;
    }

pub returns-clause-records : goal.returns-clause-records
returns-clause-records c =
    let i = c.loop-spot.spot-index in
    let ended : i ≡ length c.args.spots.now = omega (arith, c.loop-spot-test.false, c.loop-spot.auto.spot-index-end) in
    let are : AreWholeStructs c.args.layout.now c.loop-spot.copied.items (length c.args.spots.now) = record {
      layout = c.requires.whole.layout;
      whole = subst (λ k. k * c.args.layout.now.size ≤ length c.loop-spot.copied.items) ended
          (omega (arith, c.loop-spot.invariant.long));
    } in
    all_copied _ _ _ _ i ended are c.loop-spot.invariant.are
