-- What the log's blocks come to, one after another, on a plain map.
use Rattle.std.specs.Prelude.{◌≡◌, ℕ, ◌+◌, List, [], ◌∷◌, ◌++◌, Bool, nat_eq, cond, take, map}
use Rattle.std.specs.Cmp.Lexicographic.{pointwise}
use Rattle.am_record.specs.Plain.{PlainMap, answers, left}
use Rattle.am_record.specs.declared.step.Op.{Op}
use Rattle.am_record.specs.declared.step.Reply.{Reply}
use Rattle.am_replica.specs.declared.block.Block.{Block}
use Rattle.am_replica.specs.declared.block.Outcome.{Outcome}
use Rattle.am_replica.specs.declared.block.Outcome.TheVariants.{Committed, Conflict}
use Rattle.am_replica.specs.Bodies.{kept_ops, replies, leaves, given}

-- the committed records, and how many blocks committed
pub record Ordered : Type 0 where
  pub map : PlainMap
  pub commits : ℕ

-- an outcome as who sent the block is told
pub data Verdict : Type 0 where
  Stands : ℕ → List Reply → Verdict
  Fails : Verdict

abbrev pub verdict : Outcome → Verdict
verdict (Committed number told) = Stands number told.items
verdict Conflict = Fails

abbrev pub verdicts : List Outcome → List Verdict
verdicts outcomes = map verdict outcomes

-- a digest of answers: its 32 bytes
abbrev pub Sum : Type 0
Sum = List ℕ

abbrev pub same_sum : Sum → Sum → Bool
same_sum a b = pointwise nat_eq a b

-- whether the block's first lines are answered as they were, as far as the digest says
abbrev pub stands : (List Reply → Sum) → Block → PlainMap → Bool
stands digest block m = same_sum (digest (given (take block.told (replies block.ops.items m)))) block.digest

abbrev pub outcome : (List Reply → Sum) → Block → Ordered → Verdict
outcome digest block s = cond (stands digest block s.map) (Stands (s.commits + 1) (replies block.ops.items s.map)) Fails

abbrev pub after_block : (List Reply → Sum) → Block → Ordered → Ordered
after_block digest block s =
    cond (stands digest block s.map) (record { map = leaves block.ops.items s.map; commits = s.commits + 1 }) s

abbrev pub outcomes : (List Reply → Sum) → List Block → Ordered → List Verdict
outcomes digest [] s = []
outcomes digest (block ∷ blocks) s = outcome digest block s ∷ outcomes digest blocks (after_block digest block s)

abbrev pub after_blocks : (List Reply → Sum) → List Block → Ordered → Ordered
after_blocks digest [] s = s
after_blocks digest (block ∷ blocks) s = after_blocks digest blocks (after_block digest block s)

-- ---- committed transactions: their operations, what they were answered, and their numbers

pub record Commit : Type 0 where
  pub ops : List Op
  pub replies : List Reply
  pub number : ℕ

abbrev pub commit_of : Block → Verdict → List Commit
commit_of block (Stands number told) =
    (record { ops = kept_ops block.ops.items; replies = given told; number = number }) ∷ []
commit_of block Fails = []

abbrev pub commits_of : (List Reply → Sum) → List Block → Ordered → List Commit
commits_of digest [] s = []
commits_of digest (block ∷ blocks) s =
    commit_of block (outcome digest block s) ++ commits_of digest blocks (after_block digest block s)

-- each is answered as it is alone on the map that those before it leave, and has the next number
abbrev pub AreInTurn : List Commit → Ordered → Type 0
AreInTurn [] s = Unit {0}
AreInTurn (c ∷ cs) s = (c.replies ≡ answers c.ops s.map) × (c.number ≡ s.commits + 1)
    × AreInTurn cs (record { map = left c.ops s.map; commits = s.commits + 1 })

abbrev pub left_by : List Commit → PlainMap → PlainMap
left_by [] m = m
left_by (c ∷ cs) m = left_by cs (left c.ops m)
