-- What is read is written so, and what is written so is read.
use Rattle.std.proofs.Common.{◌≡◌, ℕ, zero, suc, ◌^◌, ◌<◌, Bool, true, false, cond, eqb, List, [], ◌∷◌, ◌++◌, length}
use Rattle.std.proofs.Common.{All, Result, Ok, Err, refl, sym, ap, subst, ◌∙◌, append_assoc, arith}
use Rattle.std.specs.Prelude.{IfOk}
use Rattle.std.specs.Global.{Vec}
use Rattle.std.specs.List.{flat_map, AllByRecursion}
use Rattle.std.specs.Int.{w32, to_be_bytes}
use Rattle.std.proofs.lemmas.Bool.{eqb-true}
use Rattle.std.proofs.lemmas.List.{append-nil, nil_from_length}
use Rattle.std.proofs.lemmas.List.Elements.{All-from_recursion}
use Rattle.std.proofs.lemmas.List.Concat.{flat_map-cons}
use Rattle.am_replica_entries.specs.declared.block.Block.{Block}
use Rattle.am_replica_entries.specs.declared.fault.Fault.{Fault}
use Rattle.am_replica_entries.specs.declared.fault.Fault.TheVariants.{Trailing}
use Rattle.am_replica_entries.specs.declared.fault.ReadError.{ReadError}
use Rattle.am_replica_entries.specs.Texts.{TheBlock, the_blocks, string, told_bytes, block_bytes, entry_text}
use Rattle.am_replica_entries.specs.Texts.{HasEntryText, AreBlocks}
use Rattle.am_replica_entries.specs.Reading.{◌>>=◌, Gives, form_at, number_at, string_at, told_at, block_at, blocks_at}
use Rattle.am_replica_entries.specs.Reading.{entry_in}
use Rattle.am_replica_entries.proofs.Fields.{IsBytes, bind_ok, ok_is, Takes, takes_then, form_takes, number_takes}
use Rattle.am_replica_entries.proofs.Fields.{number_again}
use Rattle.am_replica_entries.proofs.Fields.{string_takes, string_again, told_takes, told_again}

guard_ended : {A : Type 0} (b : Bool) (d : Fault) (x y : A) → cond b (Ok x) (Err d) ≡ Ok y → (b ≡ true) × (x ≡ y)
guard_ended true d x y e = (refl, cc)
guard_ended false d x y e = absurd cc

block_takes : (bytes : List ℕ) (x : TheBlock × List ℕ) → IsBytes bytes → block_at bytes ≡ Ok x →
    Takes bytes (block_bytes x.0) x.1 × HasEntryText x.0
unfolding block_at
block_takes bytes x fits e =
    let a = bind_ok (string_at bytes) (λ lines. told_at lines.1 >>= λ told.
    Ok (record { lines = lines.0; told = told.0 }, told.1)) x e in
    let b = bind_ok (told_at a.0.1) (λ told. Ok (record { lines = a.0.0; told = told.0 }, told.1)) x a.2 in
    let t0 = string_takes bytes a.0.0 a.0.1 fits a.1 in
    let t1 = told_takes a.0.1 b.0 t0.0.fits b.1 in
    let both = takes_then bytes (string a.0.0) a.0.1 (told_bytes b.0.0) b.0.1 t0.0 t1.0 in
    let made : TheBlock × List ℕ = (record { lines = a.0.0; told = b.0.0 }, b.0.1) in
    subst (λ (y : TheBlock × List ℕ). Takes bytes (block_bytes y.0) y.1 × HasEntryText y.0) (ok_is made x b.2)
    (both, record { lines = t0.1; told = t1.1 })

block_again : (b : TheBlock) (rest : List ℕ) → HasEntryText b → block_at (block_bytes b ++ rest) ≡ Ok (b, rest)
unfolding block_at
block_again b rest fits =
    let regrouped : block_bytes b ++ rest ≡ string b.lines ++ (told_bytes b.told ++ rest) =
    append_assoc (string b.lines) (told_bytes b.told) rest in
    ap block_at regrouped
    ∙ rw (string_again b.lines (told_bytes b.told ++ rest) fits.lines, told_again b.told rest fits.told) refl

abbrev AreTaken : ℕ → List ℕ → List TheBlock × List ℕ → Type 0
AreTaken n bytes x = Takes bytes (flat_map block_bytes x.0) x.1 × (length x.0 ≡ n) × AllByRecursion HasEntryText x.0

blocks_take : (n : ℕ) (bytes : List ℕ) (x : List TheBlock × List ℕ) → IsBytes bytes → blocks_at n bytes ≡ Ok x →
    AreTaken n bytes x
unfolding blocks_at
blocks_take zero bytes x fits e =
    subst (AreTaken 0 bytes) (ok_is ([], bytes) x e) (record { parts = refl; fits = fits }, refl, tt)
blocks_take (suc n) bytes x fits e =
    let a = bind_ok (block_at bytes) (λ first. blocks_at n first.1 >>= λ others. Ok (first.0 ∷ others.0, others.1)) x
    e in
    let b = bind_ok (blocks_at n a.0.1) (λ others. Ok (a.0.0 ∷ others.0, others.1)) x a.2 in
    let first = block_takes bytes a.0 fits a.1 in
    let second = blocks_take n a.0.1 b.0 first.0.fits b.1 in
    let both = takes_then bytes (block_bytes a.0.0) a.0.1 (flat_map block_bytes b.0.0) b.0.1 first.0 second.0 in
    let made : List TheBlock × List ℕ = (a.0.0 ∷ b.0.0, b.0.1) in
    subst (AreTaken (suc n) bytes) (ok_is made x b.2)
    (rw flat_map-cons both, ap suc second.1, (first.1, second.2))

blocks_again : (bs : List TheBlock) (rest : List ℕ) → AllByRecursion HasEntryText bs
    → blocks_at (length bs) (flat_map block_bytes bs ++ rest) ≡ Ok (bs, rest)
unfolding blocks_at
blocks_again [] rest fits = refl
blocks_again (b ∷ bs) rest fits =
    let regrouped : flat_map block_bytes (b ∷ bs) ++ rest ≡ block_bytes b ++ (flat_map block_bytes bs ++ rest) =
    ap (λ (x : List ℕ). x ++ rest) (flat_map-cons block_bytes b bs) ∙
    append_assoc (block_bytes b) (flat_map block_bytes bs) rest in
    ap (blocks_at (suc (length bs))) regrouped
    ∙ rw (block_again b (flat_map block_bytes bs ++ rest) fits.0, blocks_again bs rest fits.1) refl

whole_by : (bytes text : List ℕ) (n : ℕ) (bs : List TheBlock) (rest : List ℕ) → bytes ≡ 1 ∷ text
    → text ≡ (to_be_bytes w32 n ++ flat_map block_bytes bs) ++ rest → rest ≡ [] → length bs ≡ n → bytes ≡ entry_text bs
whole_by bytes text n bs rest form parts none same =
    let body = flat_map block_bytes bs in
    let all : text ≡ to_be_bytes w32 (length bs) ++ body =
    parts
    ∙ ap (λ (r : List ℕ). (to_be_bytes w32 n ++ body) ++ r) none
    ∙ append-nil (to_be_bytes w32 n ++ body)
    ∙ ap (λ (k : ℕ). to_be_bytes w32 k ++ body) (sym same) in
    form ∙ ap (λ (t : List ℕ). 1 ∷ t) all

pub all_take : (text : List ℕ) (bs : List TheBlock) → IsBytes text → entry_in text ≡ Ok bs →
    AreBlocks bs × (text ≡ entry_text bs)
unfolding entry_in
all_take text bs fits e =
    let f = bind_ok (form_at text) (λ rest. number_at w32 rest >>= λ n. blocks_at n.0 n.1 >>= λ x.
    cond (eqb (length x.1) 0) (Ok x.0) (Err Trailing)) bs e in
    let a = bind_ok (number_at w32 f.0) (λ n. blocks_at n.0 n.1 >>= λ x.
    cond (eqb (length x.1) 0) (Ok x.0) (Err Trailing)) bs f.2 in
    let b = bind_ok (blocks_at a.0.0 a.0.1) (λ x. cond (eqb (length x.1) 0) (Ok x.0) (Err Trailing)) bs a.2 in
    let g = guard_ended (eqb (length b.0.1) 0) Trailing b.0.0 bs b.2 in
    let form = form_takes text f.0 fits f.1 in
    let first = number_takes f.0 a.0.0 a.0.1 form.fits a.1 in
    let second = blocks_take a.0.0 a.0.1 b.0 first.0.fits b.1 in
    let nothing : b.0.1 ≡ [] = nil_from_length b.0.1 (eqb-true (length b.0.1) 0 g.0) in
    let both = takes_then f.0 (to_be_bytes w32 a.0.0) a.0.1 (flat_map block_bytes b.0.0) b.0.1 first.0 second.0 in
    let whole = whole_by text f.0 a.0.0 b.0.0 b.0.1 form.parts both.parts nothing second.1 in
    subst (λ (v : List TheBlock). AreBlocks v × (text ≡ entry_text v)) {x = b.0.0} g.1
    ((omega (arith, second.1, first.1), second.2), whole)

pub all_again : (bs : List TheBlock) → AreBlocks bs → entry_in (entry_text bs) ≡ Ok bs
unfolding entry_in
all_again bs fits =
    let rest : blocks_at (length bs) (flat_map block_bytes bs) ≡ Ok (bs, []) =
    ap (blocks_at (length bs)) (sym (append-nil (flat_map block_bytes bs))) ∙ blocks_again bs [] fits.1 in
    rw (number_again (length bs) (flat_map block_bytes bs) fits.0, rest) refl

pub is_found : (text : List ℕ) (r : Result (Vec Block) ReadError) → IsBytes text
    → Gives (λ v. the_blocks v.items) r (entry_in text)
    → IfOk r (λ v. AreBlocks (the_blocks v.items) × (text ≡ entry_text (the_blocks v.items)))
is_found text (Ok v) fits given = all_take text (the_blocks v.items) fits given
is_found text (Err e) fits given = tt

pub are_apart : (a b : List TheBlock) → AreBlocks a → AreBlocks b → entry_text a ≡ entry_text b → a ≡ b
are_apart a b fits others same =
    ok_is a b (sym (all_again a fits) ∙ ap entry_in same ∙ all_again b others)

-- the lines of blocks that have a text, at each place
lines_fit : (bs : List Block) → AllByRecursion HasEntryText (the_blocks bs) →
    AllByRecursion (λ b. length b.lines.items < 2 ^ 32) bs
lines_fit [] fits = tt
lines_fit (b ∷ bs) fits = (fits.0.lines, lines_fit bs fits.1)

pub each_fits : (bs : List Block) → AreBlocks (the_blocks bs) → All (λ b. length b.lines.items < 2 ^ 32) bs
each_fits bs fits = All-from_recursion (λ b. length b.lines.items < 2 ^ 32) bs (lines_fit bs fits.1)
