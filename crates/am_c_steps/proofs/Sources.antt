-- Records that are read where they lie: each is that of its place.
use Rattle.std.proofs.Common.{◌≡◌, ℕ, zero, suc, ◌<◌, List, [], ◌∷◌, length, get_or, Bool, true, false, cond, Ok, Err}
use Rattle.std.proofs.Common.{◌+◌, ◌-◌, ◌≤◌, ◌++◌, drop, take, ⊎_elim, refl, sym, ap, ◌∙◌, subst, arith}
use Rattle.std.proofs.Math.Nat.{eq-or-lt_of_le}
use Rattle.std.proofs.lemmas.Bool.{eqb-true}
use Rattle.std.proofs.lemmas.List.{length-append, length-drop, drop-drop, get_or_append_left, get_or_push}
use Rattle.std.proofs.lemmas.List.{get_or_default}
use Rattle.am_record.proofs.Lists.{heads, tails}
use Rattle.std.specs.Prelude.{Result, ◌==◌, nat_le, is_ok}
use Rattle.am_record.specs.Limits.{max_key_bytes, max_value_bytes}
use Rattle.am_record.specs.OrderedKey.{OrderedKey, key_of}
use Rattle.am_record.specs.Plain.{Records}
use Rattle.am_c_steps.specs.declared.status.Status.{Status}
use Rattle.am_c_steps.specs.declared.status.Status.TheVariants.{BadKey, BadValue}
use Rattle.am_c_steps.specs.declared.text.Record.{Record}
use Rattle.am_c_steps.specs.Texts.{of_both, text_key, pair_given}
use Rattle.am_c_steps.specs.AskedSteps.{pairs_given}
use Rattle.am_c_steps.specs.Lines.{line_given, lines_given, text_given, text_lines, IsLineStart, AreLineStarts}
use Rattle.am_c_steps.specs.Structs.{records_given}

abbrev Pair : Type 0
Pair = OrderedKey × List ℕ

abbrev put : Pair → Records → Result Records Status
put p ps = Ok (p ∷ ps)

pub is_given : (given : Result Records Status) → is_ok given ≡ true → given ≡ Ok (records_given given)
is_given (Ok records) e = refl
is_given (Err why) e = absurd (cc)

-- the first of what was given, and the others
pub record First (a : Result Pair Status) (b : Result Records Status) (records : Records) : Type 0 where
  pub first : Pair
  pub others : Records
  pub made : a ≡ Ok first
  pub rest : b ≡ Ok others
  pub all : records ≡ first ∷ others

pub first_of : (a : Result Pair Status) (b : Result Records Status) (records : Records) →
    of_both put a b ≡ Ok records → First a b records
first_of (Ok p) (Ok ps) records e =
    record { first = p; others = ps; made = refl; rest = refl; all = sym (ap records_given e) }
first_of (Ok p) (Err why) records e = absurd (cc)
first_of (Err why) b records e = absurd (cc)

-- ---- C's records

pub as_many : (rs : List Record) (records : Records) → pairs_given rs ≡ Ok records → length rs ≡ length records
as_many [] records e = ap length (ap records_given e)
as_many (r ∷ rs) records e =
    let f = first_of (pair_given r) (pairs_given rs) records e in
    ap suc (as_many rs f.others f.rest) ∙ ap length (sym f.all)

pub pair_at : (rs : List Record) (records : Records) → pairs_given rs ≡ Ok records → (at : ℕ) → at < length records →
    (r : Record) (d : Pair) → pair_given (get_or rs at r) ≡ Ok (get_or records at d)
pair_at [] records e at low r d =
    let none : 0 ≡ length records = ap length (ap records_given e) in absurd (omega (arith, low, none))
pair_at (x ∷ rs) records e zero low r d =
    let f = first_of (pair_given x) (pairs_given rs) records e in f.made ∙ ap (λ ps. Ok (get_or ps 0 d)) (sym f.all)
pair_at (x ∷ rs) records e (suc at) low r d =
    let f = first_of (pair_given x) (pairs_given rs) records e in
    let long : length records ≡ suc (length f.others) = ap length f.all in
    pair_at rs f.others f.rest at (omega (arith, low, long)) r d ∙ ap (λ ps. Ok (get_or ps (suc at) d)) (sym f.all)

abbrev first : Result Pair Status → Result OrderedKey Status
first (Ok p) = Ok p.0
first (Err why) = Err why

pub key_of_pair : (r : Record) (p : Pair) → pair_given r ≡ Ok p → text_key r.key ≡ Ok p.0
key_of_pair r p e = by (nat_le r.key.len max_key_bytes) (nat_le r.value.len max_value_bytes) e
  where
    by : (b c : Bool) → cond b (cond c (Ok (key_of (take r.key.len r.key.bytes), take r.value.len r.value.bytes))
        (Err BadValue)) (Err BadKey) ≡ Ok p →
        cond b (Ok (key_of (take r.key.len r.key.bytes))) (Err BadKey) ≡ Ok p.0
    by true true e = ap first e
    by true false e = absurd (cc)
    by false c e = absurd (cc)

-- ---- lines

pub lines_as_many : (lines : List (List ℕ)) (records : Records) → lines_given lines ≡ Ok records →
    length lines ≡ length records
lines_as_many [] records e = ap length (ap records_given e)
lines_as_many (l ∷ lines) records e =
    let f = first_of (line_given l) (lines_given lines) records e in
    ap suc (lines_as_many lines f.others f.rest) ∙ ap length (sym f.all)

-- the line that stands there
pub line_there : (lines : List (List ℕ)) (records : Records) → lines_given lines ≡ Ok records → (at : ℕ) →
    at < length records → (line : List ℕ) (more : List (List ℕ)) → drop at lines ≡ line ∷ more → (d : Pair) →
    line_given line ≡ Ok (get_or records at d)
line_there [] records e at low line more is d =
    let none : 0 ≡ length records = ap length (ap records_given e) in absurd (omega (arith, low, none))
line_there (l ∷ lines) records e zero low line more is d =
    let f = first_of (line_given l) (lines_given lines) records e in
    ap line_given (sym (heads is)) ∙ f.made ∙ ap (λ ps. Ok (get_or ps 0 d)) (sym f.all)
line_there (l ∷ lines) records e (suc at) low line more is d =
    let f = first_of (line_given l) (lines_given lines) records e in
    let long : length records ≡ suc (length f.others) = ap length f.all in
    line_there lines f.others f.rest at (omega (arith, low, long)) line more is d
    ∙ ap (λ ps. Ok (get_or ps (suc at) d)) (sym f.all)

-- where the lines begin that were read, the text goes on with the rest
pub record AreSoFar (text rest : List ℕ) (starts : List ℕ) : Type 0 where
  pub short : length rest ≤ length text
  pub from : rest ≡ drop (length text - length rest) text
  pub few : length starts ≤ length (text_lines text)
  pub lines : text_lines rest ≡ drop (length starts) (text_lines text)
  pub each : (at : ℕ) → at < length starts → IsLineStart text (get_or starts at 0) (drop at (text_lines text))

pub none_so_far : (text : List ℕ) → AreSoFar text text []
none_so_far text = record {
  short = omega arith;
  from = let none : 0 ≡ length text - length text = omega arith in ap (λ n. drop n text) none;
  few = omega arith;
  lines = refl;
  each = λ at low. absurd (omega (arith, low));
}

drop_next : {A : Type 0} (n : ℕ) (xs : List A) (x : A) (more : List A) → drop n xs ≡ x ∷ more →
    (n < length xs) × (drop (n + 1) xs ≡ more)
drop_next zero [] x more e = absurd (cc)
drop_next (suc n) [] x more e = absurd (cc)
drop_next zero (y ∷ xs) x more e =
    let one : 0 + 1 ≡ 1 = omega arith in (omega arith, ap (λ k. drop k (y ∷ xs)) one ∙ tails e)
drop_next (suc n) (y ∷ xs) x more e =
    let next = drop_next n xs x more e in
    let more_by : suc n + 1 ≡ suc (n + 1) = omega arith in
    (omega (arith, next.0), ap (λ k. drop k (y ∷ xs)) more_by ∙ next.1)

pub one_so_far : (text rest behind line : List ℕ) (starts new : List ℕ) (start : ℕ) → AreSoFar text rest starts →
    0 < length rest → start ≡ length text - length rest → text_lines rest ≡ line ∷ text_lines behind →
    behind ≡ drop (length rest - length behind) rest → length behind < length rest → new ≡ starts ++ start ∷ [] →
    AreSoFar text behind new
one_so_far text rest behind line starts new start so some is cut left fewer pushed =
    let next = drop_next (length starts) (text_lines text) line (text_lines behind) (sym so.lines ∙ cut) in
    let long : length new ≡ length starts + 1 = ap length pushed ∙ length-append starts (start ∷ []) in
    record {
      short = omega (arith, so.short, fewer);
      from = left ∙ ap (drop (length rest - length behind)) so.from
          ∙ drop-drop (length rest - length behind) (length text - length rest) text
          ∙ (let same : (length text - length rest) + (length rest - length behind) ≡ length text - length behind =
          omega (arith, so.short, fewer) in ap (λ n. drop n text) same);
      few = omega (arith, long, next.0);
      lines = sym next.1 ∙ ap (λ n. drop n (text_lines text)) (sym long);
      each = λ at low. at_each at (omega (arith, low, long));
    }
  where
    at_each : (at : ℕ) → at ≤ length starts → IsLineStart text (get_or new at 0) (drop at (text_lines text))
    at_each at low = ⊎_elim
        (λ (here : at ≡ length starts).
        let inside : start < length text = omega (arith, is, some, so.short) in
        let there : get_or new at 0 ≡ start = ap (λ ns. get_or ns at 0) pushed ∙
        get_or_push starts start 0 at (sym here)
        in
        subst (λ n. IsLineStart text n (drop at (text_lines text))) (sym there) (
          inside,
          ap (λ n. text_lines (drop n text)) is ∙ ap text_lines (sym so.from) ∙ so.lines
              ∙ ap (λ n. drop n (text_lines text)) (sym here),
        ))
        (λ (before : at < length starts). subst (λ n. IsLineStart text n (drop at (text_lines text)))
        (sym (ap (λ ns. get_or ns at 0) pushed ∙ get_or_append_left starts (start ∷ []) 0 at before))
        (so.each at before))
        (eq-or-lt_of_le low)

pub no_bytes : (bytes : List ℕ) → (length bytes == 0) ≡ true → bytes ≡ []
no_bytes [] e = refl
no_bytes (b ∷ bytes) e = absurd (omega (arith, eqb-true (suc (length bytes)) 0 e))

pub all_so_far : (text rest : List ℕ) (starts : List ℕ) → AreSoFar text rest starts → rest ≡ [] →
    AreLineStarts text starts
all_so_far text rest starts so empty =
    let none : length (drop (length starts) (text_lines text)) ≡ 0 =
    ap length (sym so.lines) ∙ ap (λ t. length (text_lines t)) empty in
    let all : length starts ≡ length (text_lines text) =
    omega (arith, none, so.few, length-drop (length starts) (text_lines text)) in
    record { all = all; each = so.each }

-- ---- where they are read

module _ (rs : List Record) (ok : is_ok (pairs_given rs) ≡ true) (records : Records)
    (is : records_given (pairs_given rs) ≡ records) where
  made : pairs_given rs ≡ Ok records
  made = is_given (pairs_given rs) ok ∙ ap Ok is

  pub records_count : length rs ≡ length records
  records_count = as_many rs records made

  pub there_is : (at : ℕ) → at < length records → at < length rs
  there_is at low = omega (arith, low, records_count)

  pub pair_there : (at : ℕ) → at < length records → (r : Record) (d : Pair) →
      pair_given (get_or rs at r) ≡ Ok (get_or records at d)
  pair_there at low r d = pair_at rs records made at low r d

  pub key_there : (at : ℕ) → at < length records → (r : Record) (d : Pair) →
      text_key (get_or rs at r).key ≡ Ok (get_or records at d).0
  key_there at low r d = key_of_pair (get_or rs at r) (get_or records at d) (pair_there at low r d)

some_left : (at : ℕ) (lines : List (List ℕ)) → at < length lines →
    (line : List ℕ) × (more : List (List ℕ)) × (drop at lines ≡ line ∷ more)
some_left at [] low = absurd (omega (arith, low))
some_left zero (l ∷ lines) low = (l, lines, refl)
some_left (suc at) (l ∷ lines) low = some_left at lines (omega (arith, low))

module _ (text : List ℕ) (starts : List ℕ) (are : AreLineStarts text starts) (ok : is_ok (text_given text) ≡ true)
    (records : Records) (is : records_given (text_given text) ≡ records) where
  read : text_given text ≡ Ok records
  read = is_given (text_given text) ok ∙ ap Ok is

  pub starts_count : length starts ≡ length records
  starts_count = are.all ∙ lines_as_many (text_lines text) records read

  module _ (at : ℕ) (low : at < length records) where
    pub start_is : at < length starts
    start_is = omega (arith, low, starts_count)

    module _ (start : ℕ) (is_read : start ≡ get_or starts at start) where
      same : start ≡ get_or starts at 0
      same = is_read ∙ get_or_default starts at start 0 start_is

      pub start_within : start < length text
      start_within = subst (λ n. n < length text) (sym same) (are.each at start_is).0

      -- some line begins there
      line_at_start : (line : List ℕ) × (more : List (List ℕ)) × (text_lines (drop start text) ≡ line ∷ more)
      line_at_start =
          let first = some_left at (text_lines text) (omega (arith, start_is, are.all)) in (
            first.0,
            first.1,
            ap (λ n. text_lines (drop n text)) same ∙ (are.each at start_is).1 ∙ first.2,
          )

      pub line_is : (line : List ℕ) (more : List (List ℕ)) → text_lines (drop start text) ≡ line ∷ more → (d : Pair) →
          line_given line ≡ Ok (get_or records at d)
      line_is line more cut d = line_there (text_lines text) records read at low line more
          (sym (are.each at start_is).1 ∙ ap (λ n. text_lines (drop n text)) (sym same) ∙ cut) d

      pub key_is : (key : Result OrderedKey Status) →
          ((line : List ℕ) (more : List (List ℕ)) (pair : Pair) → text_lines (drop start text) ≡ line ∷ more →
          line_given line ≡ Ok pair → key ≡ Ok pair.0) → (d : Pair) → key ≡ Ok (get_or records at d).0
      key_is key told d =
          let first = line_at_start in
          told first.0 first.1 (get_or records at d) first.2 (line_is first.0 first.1 first.2 d)
