-- Committed blocks are answered in turn.
use Rattle.std.proofs.Common.{◌≡◌, ◌+◌, List, [], ◌∷◌, ◌++◌, Bool, true, false, cond, refl, sym}
use Rattle.am_record.specs.declared.step.Reply.{Reply}
use Rattle.am_replica.specs.declared.block.Block.{Block}
use Rattle.am_replica.specs.Bodies.{replies, leaves}
use Rattle.am_replica.specs.Ordered.{Ordered, Stands, Fails, Commit, commit_of, stands, after_blocks, commits_of}
use Rattle.am_replica.specs.Ordered.{AreInTurn}
use Rattle.am_replica.specs.Ordered.{left_by, Sum}
use Rattle.am_replica.proofs.Given.{given_are_answers}

module _ (digest : List Reply → Sum) where
  -- where a block leads, by whether it stands
  abbrev led : Block → Ordered → Bool → Ordered
  led block s test = cond test (record { map = leaves block.ops.items s.map; commits = s.commits + 1 }) s

  abbrev commits : Block → List Block → Ordered → Bool → List Commit
  commits block blocks s test =
      commit_of block (cond test (Stands (s.commits + 1) (replies block.ops.items s.map)) Fails) ++
      commits_of digest blocks (led block s test)

  by_test : (block : Block) (blocks : List Block) (s : Ordered) (test : Bool) →
      ((t : Ordered) → AreInTurn (commits_of digest blocks t) t)
      → AreInTurn (commits block blocks s test) s
  by_test block blocks s true rest = (sym (given_are_answers s.map [] block.ops.items), refl, rest (led block s true))
  by_test block blocks s false rest = rest s

  pub in_turn : (blocks : List Block) (s : Ordered) → AreInTurn (commits_of digest blocks s) s
  in_turn [] s = tt
  in_turn (block ∷ blocks) s = by_test block blocks s (stands digest block s.map) (λ t. in_turn blocks t)

  leaves_by : (block : Block) (blocks : List Block) (s : Ordered) (test : Bool)
      → ((t : Ordered) → (after_blocks digest blocks t).map ≡ left_by (commits_of digest blocks t) t.map)
      → (after_blocks digest blocks (led block s test)).map ≡ left_by (commits block blocks s test) s.map
  leaves_by block blocks s true rest = rest (led block s true)
  leaves_by block blocks s false rest = rest s

  pub left_in_turn : (blocks : List Block) (s : Ordered) → (after_blocks digest blocks s).map ≡ left_by
      (commits_of digest blocks s) s.map
  left_in_turn [] s = refl
  left_in_turn (block ∷ blocks) s = leaves_by block blocks s (stands digest block s.map) (λ t. left_in_turn blocks t)
