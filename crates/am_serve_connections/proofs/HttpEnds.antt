-- Where bytes end a line of HTTP.
use Rattle.std.proofs.Common.{◌≡◌, ◌∙◌, ℕ, suc, ◌+◌, ◌≤◌, List, [], ◌∷◌, ◌++◌, length, drop, Option, Some, None}
use Rattle.std.proofs.Common.{Bool, true, false, cond, eqb, refl, sym, ap, append_assoc, append-nil, length-append}
use Rattle.std.proofs.Common.{arith, inl, inr}
use Rattle.std.proofs.lemmas.Bool.{ne_eqb, cases_Bool, true≢false, eqb-false}
use Rattle.std.proofs.lemmas.List.{drop-drop, length-drop}
use Rattle.am_line_source.specs.Lines.{HasNoLf, has_lf}
use Rattle.am_line_source.proofs.LineEnds.{no_lf}
use Rattle.am_serve_connections.specs.Http.{is_of_http}
use Rattle.am_serve_connections.specs.OwnLines.{http_end, line_behind, moved_on}

pub moved_on-moved_on : (a b : ℕ) (place : Option ℕ) → moved_on a (moved_on b place) ≡ moved_on (a + b) place
moved_on-moved_on a b None = refl
moved_on-moved_on a b (Some n) = let same : a + (b + n) ≡ (a + b) + n = omega arith in ap Some same

-- a place in a longer piece
later-cond : (b : Bool) (n : ℕ) (place : Option ℕ) →
    moved_on 1 (cond b (Some n) (moved_on (n + 1) place)) ≡ cond b (Some (suc n)) (moved_on (suc n + 1) place)
later-cond true n place = let same : 1 + n ≡ suc n = omega arith in ap Some same
later-cond false n place =
    let same : 1 + (n + 1) ≡ suc n + 1 = omega arith in moved_on-moved_on 1 (n + 1) place ∙
    ap (λ m. moved_on m place) same

-- bytes that begin with the rest of a line, its LF with it
pub http_end-ended : (line seg rest : List ℕ) → HasNoLf seg → http_end line (seg ++ 10 ∷ rest) ≡
    cond (is_of_http (line ++ seg)) (Some (length seg)) (moved_on (length seg + 1) (http_end [] rest))
http_end-ended line [] rest none =
    ap (λ (l : List ℕ). cond (is_of_http l) (Some 0) (moved_on 1 (http_end [] rest))) (sym (append-nil line))
http_end-ended line (c ∷ seg) rest none =
    let other : eqb c 10 ≡ false = ne_eqb c 10 none.0 in
    ap (λ b. cond b (cond (is_of_http line) (Some 0) (moved_on 1 (http_end [] (seg ++ 10 ∷ rest))))
    (moved_on 1 (http_end (line ++ c ∷ []) (seg ++ 10 ∷ rest)))) other ∙
    ap (moved_on 1) (http_end-ended (line ++ c ∷ []) seg rest none.1) ∙
    later-cond (is_of_http ((line ++ c ∷ []) ++ seg)) (length seg) (http_end [] rest) ∙
    ap (λ (l : List ℕ). cond (is_of_http l) (Some (suc (length seg)))
    (moved_on (suc (length seg) + 1) (http_end [] rest)))
    (append_assoc line (c ∷ []) seg)

pub line_behind-ended : (line seg rest : List ℕ) → HasNoLf seg →
    line_behind line (seg ++ 10 ∷ rest) ≡ line_behind [] rest
line_behind-ended line [] rest none = refl
line_behind-ended line (c ∷ seg) rest none =
    ap (λ b. cond b (line_behind [] (seg ++ 10 ∷ rest)) (line_behind (line ++ c ∷ []) (seg ++ 10 ∷ rest)))
    (ne_eqb c 10 none.0) ∙ line_behind-ended (line ++ c ∷ []) seg rest none.1

-- bytes of one line that they leave open
pub http_end-open : (line seg : List ℕ) → HasNoLf seg → http_end line seg ≡ None
http_end-open line [] none = refl
http_end-open line (c ∷ seg) none =
    ap (λ b. cond b (cond (is_of_http line) (Some 0) (moved_on 1 (http_end [] seg)))
    (moved_on 1 (http_end (line ++ c ∷ []) seg)))
    (ne_eqb c 10 none.0) ∙ ap (moved_on 1) (http_end-open (line ++ c ∷ []) seg none.1)

pub line_behind-open : (line seg : List ℕ) → HasNoLf seg → line_behind line seg ≡ line ++ seg
line_behind-open line [] none = sym (append-nil line)
line_behind-open line (c ∷ seg) none =
    ap (λ b. cond b (line_behind [] seg) (line_behind (line ++ c ∷ []) seg)) (ne_eqb c 10 none.0) ∙
    line_behind-open (line ++ c ∷ []) seg none.1 ∙ append_assoc line (c ∷ []) seg

-- the same of bytes of which that is known
at_line : (line bytes seg : List ℕ) → HasNoLf seg → bytes ≡ seg ++ 10 ∷ drop (length seg + 1) bytes →
    http_end line bytes ≡
    cond (is_of_http (line ++ seg)) (Some (length seg))
    (moved_on (length seg + 1) (http_end [] (drop (length seg + 1) bytes)))
at_line line bytes seg none split =
    ap (http_end line) split ∙ http_end-ended line seg (drop (length seg + 1) bytes) none

-- Of bytes some were looked at, and a line has begun there. The next line is looked at.
next_line : (first line bytes rest seg : List ℕ) (start : ℕ) (b : Bool) →
    http_end first bytes ≡ moved_on start (http_end line (drop start bytes)) → rest ≡ drop start bytes → HasNoLf seg →
    rest ≡ seg ++ 10 ∷ drop (length seg + 1) rest → is_of_http (line ++ seg) ≡ b → http_end first bytes ≡
    moved_on start (cond b (Some (length seg)) (moved_on (length seg + 1) (http_end [] (drop (length seg + 1) rest))))
next_line first line bytes rest seg start b said rest_is none split http =
    said ∙ ap (λ (l : List ℕ). moved_on start (http_end line l)) (sym rest_is) ∙
    ap (moved_on start) (at_line line rest seg none split) ∙
    ap (λ v. moved_on start (cond v (Some (length seg))
    (moved_on (length seg + 1) (http_end [] (drop (length seg + 1) rest))))) http

pub end_found : (first line bytes rest seg : List ℕ) (start : ℕ) →
    http_end first bytes ≡ moved_on start (http_end line (drop start bytes)) → rest ≡ drop start bytes → HasNoLf seg →
    rest ≡ seg ++ 10 ∷ drop (length seg + 1) rest → is_of_http (line ++ seg) ≡ true →
    Some (start + length seg) ≡ http_end first bytes
end_found first line bytes rest seg start said rest_is none split http =
    sym (next_line first line bytes rest seg start true said rest_is none split http)

behind : (bytes rest : List ℕ) (start n : ℕ) → rest ≡ drop start bytes → drop (n + 1) rest ≡ drop ((start + n) + 1)
    bytes
behind bytes rest start n rest_is =
    let far : start + (n + 1) ≡ (start + n) + 1 = omega arith in
    ap (drop (n + 1)) rest_is ∙ drop-drop (n + 1) start bytes ∙ ap (λ m. drop m bytes) far

pub end_later : (first line bytes rest seg : List ℕ) (start : ℕ) →
    http_end first bytes ≡ moved_on start (http_end line (drop start bytes)) → rest ≡ drop start bytes → HasNoLf seg →
    rest ≡ seg ++ 10 ∷ drop (length seg + 1) rest → is_of_http (line ++ seg) ≡ false → http_end first bytes ≡
    moved_on ((start + length seg) + 1) (http_end [] (drop ((start + length seg) + 1) bytes))
end_later first line bytes rest seg start said rest_is none split http =
    let far : start + (length seg + 1) ≡ (start + length seg) + 1 = omega arith in
    next_line first line bytes rest seg start false said rest_is none split http ∙
    moved_on-moved_on start (length seg + 1) (http_end [] (drop (length seg + 1) rest)) ∙
    ap (λ m. moved_on m (http_end [] (drop (length seg + 1) rest))) far ∙
    ap (λ (l : List ℕ). moved_on ((start + length seg) + 1) (http_end [] l))
    (behind bytes rest start (length seg) rest_is)

pub line_later : (first line bytes rest seg : List ℕ) (start : ℕ) →
    line_behind first bytes ≡ line_behind line (drop start bytes) → rest ≡ drop start bytes → HasNoLf seg →
    rest ≡ seg ++ 10 ∷ drop (length seg + 1) rest →
    line_behind first bytes ≡ line_behind [] (drop ((start + length seg) + 1) bytes)
line_later first line bytes rest seg start said rest_is none split =
    said ∙ ap (line_behind line) (sym rest_is ∙ split) ∙ line_behind-ended line seg (drop (length seg + 1) rest) none ∙
    ap (line_behind []) (behind bytes rest start (length seg) rest_is)

pub none_found : (first line bytes rest : List ℕ) (start : ℕ) →
    http_end first bytes ≡ moved_on start (http_end line (drop start bytes)) → rest ≡ drop start bytes → HasNoLf rest →
    None ≡ http_end first bytes
none_found first line bytes rest start said rest_is none =
    sym (said ∙ ap (λ (l : List ℕ). moved_on start (http_end line l)) (sym rest_is) ∙
    ap (moved_on start) (http_end-open line rest none))

pub line_left : (first line bytes rest : List ℕ) (start : ℕ) →
    line_behind first bytes ≡ line_behind line (drop start bytes) → rest ≡ drop start bytes → HasNoLf rest →
    line_behind first bytes ≡ line ++ rest
line_left first line bytes rest start said rest_is none =
    said ∙ ap (line_behind line) (sym rest_is) ∙ line_behind-open line rest none

-- a line that is there has room
pub line_fits : (bytes rest seg : List ℕ) (start : ℕ) → start ≤ length bytes → rest ≡ drop start bytes →
    rest ≡ seg ++ 10 ∷ drop (length seg + 1) rest → (start + length seg) + 1 ≤ length bytes
line_fits bytes rest seg start fits rest_is split =
    omega (
      arith,
      fits,
      ap length rest_is,
      length-drop start bytes,
      ap length split,
      length-append seg (10 ∷ drop (length seg + 1) rest),
    )
