-- Entries of texts.
use Rattle.std.proofs.Common.{◌≡◌, ℕ, List, [], ◌∷◌, ◌++◌, length, take, drop, get_or, ◌<◌, cond, ◌+◌, Bool, true}
use Rattle.std.proofs.Common.{false, Ok, Err, refl, sym, ap, ◌∙◌}
use Rattle.std.proofs.Common.{subst, arith, ◌≤◌}
use Rattle.std.specs.Prelude.{zero, suc, Result, IfOk}
use Rattle.std.specs.List.{list_all}
use Rattle.std.proofs.lemmas.Bool.{true≢false}
use Rattle.std.proofs.lemmas.List.{map-append, take_more, take-append-drop, drop_more}
use Rattle.am_record.specs.Plain.{PlainMap}
use Rattle.am_record.specs.declared.step.Op.{Op}
use Rattle.am_record.specs.declared.step.Reply.{Reply}
use Rattle.am_line_wire.specs.declared.request.Request.TheVariants.{Do, Stage}
use Rattle.am_line_dialogue.specs.declared.lines.ParsedLine.{ParsedLine}
use Rattle.am_line_dialogue.specs.declared.lines.ParsedLine.TheVariants.{Asked}
use Rattle.am_replica_entries.specs.Reading.{entry_in, Fails as ReadFails}
use Rattle.am_replica_entries.specs.declared.block.Block.{Block as EntryBlock}
use Rattle.am_replica_entries.specs.Texts.{TheBlock, the_block, the_blocks}
use Rattle.am_replica.specs.Bodies.{replies, leaves, given}
use Rattle.am_replica.specs.Ordered.{Sum, same_sum, Ordered, Verdict, Stands, Fails, outcome, after_block, outcomes}
use Rattle.am_replica.specs.Ordered.{after_blocks}
use Rattle.am_replica.specs.declared.block.Block.{Block}
use Rattle.am_replica_blocks.specs.Blocks.{BlockLine, Asks, Stages, waiting, asked_ops}
use Rattle.am_replica_lines.specs.Lines.{said, asked_by, is_own, LeavesWaiting, IsBlockOf, told_lines}
use Rattle.am_replica_entries.specs.declared.fault.Fault.{Fault}
use Rattle.am_replica_entries.specs.declared.fault.ReadError.{ReadError}
use Rattle.am_replica_entries.specs.declared.fault.ReadError.TheVariants.{NoEntry}
use Rattle.am_replica_texts.specs.Entries.{AreBlocksOf, IsEntryOf, IsNoEntry, IsEntryApplied, IsApplied}
use Rattle.am_replica_texts.specs.declared.apply.EntryOutcome.{EntryOutcome}
use Rattle.am_replica_texts.specs.declared.apply.EntryOutcome.TheVariants.{Applied, Nothing}

-- ---- what is asked tells the lines

abbrev line_of_asked : ParsedLine → List BlockLine
line_of_asked (Asked (Do op)) = Asks op ∷ []
line_of_asked (Asked (Stage records)) = Stages records ∷ []
line_of_asked parsed = []

abbrev lines_of_asked : List ParsedLine → List BlockLine
lines_of_asked [] = []
lines_of_asked (parsed ∷ rest) = line_of_asked parsed ++ lines_of_asked rest

lines_again : (lines : List BlockLine) → lines_of_asked (asked_by lines) ≡ lines
lines_again [] = refl
lines_again (Asks op ∷ lines) = ap (λ ls. Asks op ∷ ls) (lines_again lines)
lines_again (Stages records ∷ lines) = ap (λ ls. Stages records ∷ ls) (lines_again lines)

one_asked : (a b : List BlockLine) → asked_by a ≡ asked_by b → a ≡ b
one_asked a b same = sym (lines_again a) ∙ ap lines_of_asked same ∙ lines_again b

all_own : (lines : List BlockLine) → list_all is_own (asked_by lines) ≡ true
all_own [] = refl
all_own (Asks op ∷ lines) = all_own lines
all_own (Stages records ∷ lines) = all_own lines

-- ---- a block that can't be read

pub other_line : (digest : List Reply → Sum) (e : TheBlock) → list_all is_own (said e.lines) ≡ false → (b : Block) →
    IsBlockOf digest e b → ⊥
other_line digest e other b is = true≢false (sym (all_own is.lines.lines) ∙ ap (list_all is_own) (sym is.lines.asks)
    ∙ other)

pub left_waiting : (digest : List Reply → Sum) (e : TheBlock) → LeavesWaiting e.lines → (b : Block) →
    IsBlockOf digest e b → ⊥
left_waiting digest e left b is = left.some_wait (ap (waiting [])
    (one_asked left.lines is.lines.lines (sym left.asks ∙ is.lines.asks)) ∙ is.lines.none_waits)

-- ---- blocks with one text

-- what a block comes to hangs on its operations, how many were told, and the digest
record IsAlike (a b : Block) : Type 0 where
  ops : a.ops.items ≡ b.ops.items
  told : a.told ≡ b.told
  digest : a.digest ≡ b.digest

alike : (digest : List Reply → Sum) (e : TheBlock) (a b : Block) → IsBlockOf digest e a → IsBlockOf digest e b →
    IsAlike a b
alike digest e a b of_a of_b =
    let same : of_a.lines.lines ≡ of_b.lines.lines =
    one_asked of_a.lines.lines of_b.lines.lines (sym of_a.lines.asks ∙ of_b.lines.asks) in
    record {
      ops = of_a.lines.all ∙ ap (asked_ops []) same ∙ sym of_b.lines.all;
      told = of_a.lines.of_first ∙ ap (λ ls. length (asked_ops [] (take (told_lines e.told) ls))) same
          ∙ sym of_b.lines.of_first;
      digest = of_a.sum ∙ sym of_b.sum;
    }

abbrev stands_by : (List Reply → Sum) → List Op → ℕ → Sum → PlainMap → Bool
stands_by digest ops told sum m = same_sum (digest (given (take told (replies ops m)))) sum

abbrev outcome_of : (List Reply → Sum) → List Op → ℕ → Sum → Ordered → Verdict
outcome_of digest ops told sum s =
    cond (stands_by digest ops told sum s.map) (Stands (s.commits + 1) (replies ops s.map)) Fails

abbrev after_of : (List Reply → Sum) → List Op → ℕ → Sum → Ordered → Ordered
after_of digest ops told sum s =
    cond (stands_by digest ops told sum s.map) (record { map = leaves ops s.map; commits = s.commits + 1 }) s

alike_outcome : (digest : List Reply → Sum) (a b : Block) (s : Ordered) → IsAlike a b → outcome digest a s ≡
    outcome digest b s
alike_outcome digest a b s same = λ i. outcome_of digest (same.ops i) (same.told i) (same.digest i) s

alike_after : (digest : List Reply → Sum) (a b : Block) (s : Ordered) → IsAlike a b → after_block digest a s ≡
    after_block digest b s
alike_after digest a b s same = λ i. after_of digest (same.ops i) (same.told i) (same.digest i) s

each_alike : (digest : List Reply → Sum) (entry : List TheBlock) (a b : List Block) (s : Ordered) →
    AreBlocksOf digest entry a → AreBlocksOf digest entry b → (outcomes digest a s ≡ outcomes digest b s)
    × (after_blocks digest a s ≡ after_blocks digest b s)
each_alike digest [] [] [] s of_a of_b = (refl, refl)
each_alike digest (e ∷ entry) (a ∷ xs) (b ∷ ys) s of_a of_b =
    let same = alike digest e a b of_a.0 of_b.0 in
    let rest = each_alike digest entry xs ys (after_block digest b s) of_a.1 of_b.1 in (
      (λ i. alike_outcome digest a b s same i ∷ outcomes digest xs (alike_after digest a b s same i))
          ∙ ap (λ others. outcome digest b s ∷ others) rest.0,
      ap (after_blocks digest xs) (alike_after digest a b s same) ∙ rest.1,
    )
each_alike digest [] (a ∷ xs) b s of_a of_b = absurd of_a
each_alike digest [] [] (b ∷ ys) s of_a of_b = absurd of_b
each_alike digest (e ∷ entry) [] b s of_a of_b = absurd of_a
each_alike digest (e ∷ entry) (a ∷ xs) [] s of_a of_b = absurd of_b

ok_is_one : {A E : Type 0} {x y : A} → ◌≡◌ {A = Result A E} (Ok x) (Ok y) → x ≡ y
ok_is_one e = cc

ok_is_no_err : {A E : Type 0} {x : A} {e : E} → ◌≡◌ {A = Result A E} (Ok x) (Err e) → ⊥
ok_is_no_err e = cc

pub err_is_one : {A E : Type 0} {x y : E} → ◌≡◌ {A = Result A E} (Err x) (Err y) → x ≡ y
err_is_one e = cc

pub one_outcome : (digest : List Reply → Sum) (text : List ℕ) (a b : List Block) (s : Ordered) →
    IsEntryOf digest text a → IsEntryOf digest text b → (outcomes digest a s ≡ outcomes digest b s)
    × (after_blocks digest a s ≡ after_blocks digest b s)
one_outcome digest text a b s of_a of_b =
    let same : of_a.entry ≡ of_b.entry = ok_is_one (sym of_a.read ∙ of_b.read) in
    each_alike digest of_b.entry a b s (subst (λ e. AreBlocksOf digest e a) same of_a.each) of_b.each

-- ---- one block more

pub blocks_push : (digest : List Reply → Sum) (entry : List TheBlock) (blocks : List Block) (e : TheBlock) (b : Block) →
    AreBlocksOf digest entry blocks → IsBlockOf digest e b → AreBlocksOf digest (entry ++ e ∷ []) (blocks ++ b ∷ [])
blocks_push digest [] [] e b of is = (is, tt)
blocks_push digest (x ∷ entry) (y ∷ blocks) e b of is = (of.0, blocks_push digest entry blocks e b of.1 is)
blocks_push digest [] (y ∷ blocks) e b of is = absurd of
blocks_push digest (x ∷ entry) [] e b of is = absurd of

-- a block that can't be read is one of the entry's
pub none_of : (digest : List Reply → Sum) (front : List TheBlock) (e : TheBlock) (rest : List TheBlock) →
    ((b : Block) → IsBlockOf digest e b → ⊥) → (blocks : List Block) → AreBlocksOf digest (front ++ e ∷ rest) blocks → ⊥
none_of digest [] e rest none [] of = of
none_of digest [] e rest none (b ∷ blocks) of = none b of.0
none_of digest (x ∷ front) e rest none [] of = of
none_of digest (x ∷ front) e rest none (b ∷ blocks) of = none_of digest front e rest none blocks of.1

pub same_length : (digest : List Reply → Sum) (entry : List TheBlock) (blocks : List Block) →
    AreBlocksOf digest entry blocks → length blocks ≡ length entry
same_length digest [] [] of = refl
same_length digest (x ∷ entry) (y ∷ blocks) of = ap (λ n. suc n) (same_length digest entry blocks of.1)
same_length digest [] (y ∷ blocks) of = absurd of
same_length digest (x ∷ entry) [] of = absurd of

-- ---- a text that is none

pub no_entry : (digest : List Reply → Sum) (text : List ℕ) (entry : List TheBlock) → entry_in text ≡ Ok entry →
    ((blocks : List Block) → AreBlocksOf digest entry blocks → ⊥) → IsNoEntry digest text
no_entry digest text entry read none blocks of = none blocks
    (subst (λ e. AreBlocksOf digest e blocks) (ok_is_one (sym of.read ∙ read)) of.each)

-- ---- an entry's blocks one by one

pub one_more_view : (entry : List EntryBlock) (i : ℕ) (block : EntryBlock) → i < length entry →
    block ≡ get_or entry i block → the_blocks (take (i + 1) entry) ≡ the_blocks (take i entry) ++ the_block block ∷ []
one_more_view entry i block inside is =
    ap the_blocks (take_more entry i block inside ∙ ap (λ b. take i entry ++ b ∷ []) (sym is))
    ∙ map-append the_block (take i entry) (block ∷ [])

pub none_at : (digest : List Reply → Sum) (entry : List EntryBlock) (i : ℕ) (block : EntryBlock) → i < length entry →
    block ≡ get_or entry i block → ((b : Block) → IsBlockOf digest (the_block block) b → ⊥) → (blocks : List Block) →
    AreBlocksOf digest (the_blocks entry) blocks → ⊥
none_at digest entry i block inside is none blocks of =
    let parts : the_blocks entry ≡ the_blocks (take i entry) ++ the_block block ∷ the_blocks (drop (i + 1) entry) =
    ap the_blocks (sym (take-append-drop i entry) ∙ ap (λ rest. take i entry ++ rest)
    (drop_more entry i block inside ∙ ap (λ b. b ∷ drop (i + 1) entry) (sym is)))
    ∙ map-append the_block (take i entry) (block ∷ drop (i + 1) entry) in
    none_of digest (the_blocks (take i entry)) (the_block block) (the_blocks (drop (i + 1) entry)) none blocks
    (subst (λ e. AreBlocksOf digest e blocks) parts of)

pub at_most : (digest : List Reply → Sum) (n : ℕ) (entry : List EntryBlock) (blocks : List Block) →
    AreBlocksOf digest (the_blocks (take n entry)) blocks → length blocks ≤ length entry
at_most digest zero entry [] of = omega arith
at_most digest zero entry (b ∷ blocks) of = absurd of
at_most digest (suc n) [] [] of = omega arith
at_most digest (suc n) [] (b ∷ blocks) of = absurd of
at_most digest (suc n) (e ∷ entry) [] of = absurd of
at_most digest (suc n) (e ∷ entry) (b ∷ blocks) of = omega (arith, at_most digest n entry blocks of.1)

-- ---- what becomes of an entry becomes of its text

as_text : (digest : List Reply → Sum) (text : List ℕ) (entry : List TheBlock) (old : Ordered) (told : EntryOutcome)
    (new : Ordered) → entry_in text ≡ Ok entry → IsEntryApplied digest entry old told new →
    IsApplied digest text old told new
as_text digest text entry old (Applied told) new read is = record {
  blocks = is.blocks;
  of = record { entry = entry; read = read; each = is.of };
  comes = is.comes;
  leads = is.leads;
}
as_text digest text entry old Nothing new read is = (no_entry digest text entry read is.0, is.1)

pub applied_as_text : {E : Type 0} (digest : List Reply → Sum) (text : List ℕ) (items entry : List EntryBlock)
    (old new : Ordered) (result : Result EntryOutcome E) → entry ≡ items → entry_in text ≡ Ok (the_blocks items) →
    IfOk result (λ told. IsEntryApplied digest (the_blocks entry) old told new) →
    IfOk result (λ told. IsApplied digest text old told new)
applied_as_text digest text items entry old new (Ok told) same read is =
    as_text digest text (the_blocks entry) old told new (read ∙ ap (λ es. Ok (the_blocks es)) (sym same)) is
applied_as_text digest text items entry old new (Err e) same read is = tt

pub faulty : (digest : List Reply → Sum) (text : List ℕ) (e : ReadError) (fault : Fault) → e ≡ NoEntry fault →
    ReadFails e (entry_in text) → IsNoEntry digest text
faulty digest text e fault is fails blocks of =
    absurd (ok_is_no_err (sym of.read ∙ subst (λ e. ReadFails e (entry_in text)) is fails))
