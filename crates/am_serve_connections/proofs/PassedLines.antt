-- What a connection passes on, and what may come of it then.
use Rattle.std.proofs.Common.{◌≡◌, ◌≢◌, ◌∙◌, ℕ, suc, zero, ◌<◌, ◌≤◌, List, [], ◌∷◌, ◌++◌, length, take, drop, Option}
use Rattle.std.proofs.Common.{None}
use Rattle.std.proofs.Common.{refl, sym, ap, subst, arith, append_assoc, append-nil}
use Rattle.std.proofs.Common.{Result, Ok, Err, Some, Bool, false, eqb}
use Rattle.std.specs.Prelude.{IfOk, OnOk, OnErr, MatchOption}
use Rattle.std.proofs.lemmas.Bool.{ne_eqb}
use Rattle.std.proofs.lemmas.List.{take-append-drop, take-take, take_all, length-take-le}
use Rattle.am_line_source.specs.SourceReads.{Took}
use Rattle.am_serve_connections.specs.Http.{is_of_http}
use Rattle.am_serve_connections.specs.OwnLines.{may_come_at, may_come, own_end, stage_behind, line_behind, line_begun}
use Rattle.am_serve_connections.specs.OwnLines.{Passed}
use Rattle.am_serve_connections.specs.declared.own_lines.OwnLines.{OwnLines}
use Rattle.am_serve_connections.specs.declared.own_lines.Stage.{Stage}
use Rattle.am_serve_connections.specs.declared.own_lines.Stage.TheVariants.{First, Open, Closed}

-- a front of what comes
abbrev IsFront : {S : Type 0} → (S → List ℕ → Type 0) → S → List ℕ → Type 0
IsFront comes source bytes = (rest : List ℕ) × comes source (bytes ++ rest)

pub front_comes : {S : Type 0} (comes : S → List ℕ → Type 0) (stage : Stage) (s : S) (bytes : List ℕ) → stage ≢ Closed →
    IsFront comes s bytes → may_come_at comes stage s bytes
front_comes comes First s bytes unclosed front = front
front_comes comes Open s bytes unclosed front = front
front_comes comes Closed s bytes unclosed front = absurd (unclosed refl)

comes_front : {S : Type 0} (comes : S → List ℕ → Type 0) (stage : Stage) (s : S) (bytes : List ℕ) → stage ≢ Closed →
    may_come_at comes stage s bytes → IsFront comes s bytes
comes_front comes First s bytes unclosed front = front
comes_front comes Open s bytes unclosed front = front
comes_front comes Closed s bytes unclosed front = absurd (unclosed refl)

-- bytes were passed on
pub passes : {S : Type 0} (comes : S → List ℕ → Type 0) (stage stage' : Stage) (s s' : S) (came : List ℕ) →
    stage ≢ Closed → stage' ≢ Closed → Took comes s came s' → (rest : List ℕ) → may_come_at comes stage' s' rest →
    may_come_at comes stage s (came ++ rest)
passes comes stage stage' s s' came unclosed unclosed' took rest h =
    let front = comes_front comes stage' s' rest unclosed' h in
    front_comes comes stage s (came ++ rest) unclosed (
      front.0,
      subst (λ (l : List ℕ). comes s l) (sym (append_assoc came rest front.0)) (took (rest ++ front.0) front.1),
    )

-- bytes were passed on, and those after them were not
pub closes : {S : Type 0} (comes : S → List ℕ → Type 0) (stage stage' : Stage) (s s' : S) (passed held : List ℕ) →
    stage ≢ Closed → stage' ≡ Closed → Took comes s (passed ++ held) s' → (rest : List ℕ) →
    may_come_at comes stage' s' rest → may_come_at comes stage s (passed ++ rest)
closes comes stage stage' s s' passed held unclosed closed took rest h =
    let front = subst (λ st. may_come_at comes st s' rest) closed h in
    front_comes comes stage s (passed ++ rest) unclosed (
      held ++ front.1.0,
      subst (λ (l : List ℕ). comes s l)
          (append_assoc passed held front.1.0 ∙
          ap (λ (l : List ℕ). l ++ (held ++ front.1.0)) (sym (append-nil passed)) ∙
          ap (λ (l : List ℕ). (passed ++ l) ++ (held ++ front.1.0)) (sym front.0))
          (took front.1.0 front.1.1),
    )

-- a closed one stays so
pub stays_closed : {S : Type 0} (comes : S → List ℕ → Type 0) (stage stage' : Stage) (s s' : S) → stage ≡ Closed →
    stage' ≡ Closed → s' ≡ s → (rest : List ℕ) → may_come_at comes stage' s' rest → may_come_at comes stage s rest
stays_closed comes stage stage' s s' is is' same rest h =
    subst (λ st. may_come_at comes st s rest) (sym is)
    (subst (λ x. may_come_at comes Closed x rest) same (subst (λ st. may_come_at comes st s' rest) is' h))

-- the part of a piece that is passed on, and the part that isn't
pub held_behind : (n len : ℕ) (bytes : List ℕ) → n ≤ len → take len bytes ≡ take n bytes ++ drop n (take len bytes)
held_behind n len bytes few =
    sym (take-append-drop n (take len bytes)) ∙
    ap (λ (l : List ℕ). l ++ drop n (take len bytes)) (take-take n len bytes few)

pub held_back : {S A E : Type 0} (comes : S → List ℕ → Type 0) (result : Result A E) (old new : OwnLines S) (source : S)
    (came : List ℕ) → old.stage ≢ Closed → Took comes old.source came source → new.stage ≡ Closed →
    new.source ≡ source → OnErr result (Took (λ (s : OwnLines S). may_come comes s) old [] new)
held_back comes (Ok x) old new source came unclosed took closed same = tt
held_back comes (Err e) old new source came unclosed took closed same = λ rest h.
    closes comes old.stage new.stage old.source new.source [] came unclosed closed
    (subst (λ s. Took comes old.source came s) (sym same) took) rest h

pub goes_on : (stage : Stage) (line : List ℕ) → stage ≢ Closed → own_end stage line [] ≡ None
goes_on First line unclosed = refl
goes_on Open line unclosed = refl
goes_on Closed line unclosed = absurd (unclosed refl)

-- what passed something on is open
pub behind_some : (stage : Stage) (n : ℕ) (bytes : List ℕ) → (n ≡ 0 → ⊥) → n ≤ length bytes →
    stage_behind stage (take n bytes) ≡ Open
behind_some stage zero bytes more fits = absurd (more refl)
behind_some stage (suc n) [] more fits = absurd (omega (arith, fits))
behind_some stage (suc n) (byte ∷ bytes) more fits = refl

-- all of a piece is passed on
pub all_passed : {S : Type 0} (comes : S → List ℕ → Type 0) (old new : OwnLines S) (room len : ℕ) (into : List ℕ)
    (place : Option ℕ) → Took comes old.source (take len into) new.source → len ≤ length into → length into ≡ room →
    (len ≡ 0 → ⊥) → place ≡ own_end old.stage (line_begun old) (take len into) → place ≡ None →
    line_begun new ≡ take 4097 (line_behind (line_begun old) (take len into)) → new.stage ≡ Open →
    Passed comes old room (take len into) new
all_passed comes old new room len into place took fits same more is none line unclosed = record {
  came = take len into;
  took = took;
  fits = omega (arith, length-take-le len into fits, fits, same);
  ended = λ nothing _. absurd (more (sym (length-take-le len into fits) ∙ ap length nothing));
  judged = subst (λ (p : Option ℕ). MatchOption p ((take len into ≡ take len into) ×
      (line_begun new ≡ take 4097 (line_behind (line_begun old) (take len into))) ×
      (new.stage ≡ stage_behind old.stage (take len into)))
      (λ place. (0 < place) × (take len into ≡ take place (take len into)) × (new.stage ≡ Closed)))
      (sym none ∙ is) (refl, line, unclosed ∙ sym (behind_some old.stage len into more fits));
}

-- a piece is passed on up to a place
pub some_passed : {S : Type 0} (comes : S → List ℕ → Type 0) (old new : OwnLines S) (room len end : ℕ) (into : List ℕ)
    (place : Option ℕ) → Took comes old.source (take len into) new.source → len ≤ length into → length into ≡ room →
    (len ≡ 0 → ⊥) → place ≡ own_end old.stage (line_begun old) (take len into) → place ≡ Some end → 0 < end →
    end ≤ len →
    new.stage ≡ Closed → Passed comes old room (take end into) new
some_passed comes old new room len end into place took fits same more is there some few closed = record {
  came = take len into;
  took = took;
  fits = omega (arith, length-take-le len into fits, fits, same);
  ended = λ nothing _. absurd (more (sym (length-take-le len into fits) ∙ ap length nothing));
  judged = subst (λ (p : Option ℕ). MatchOption p ((take end into ≡ take len into) ×
      (line_begun new ≡ take 4097 (line_behind (line_begun old) (take len into))) ×
      (new.stage ≡ stage_behind old.stage (take len into)))
      (λ place. (0 < place) × (take end into ≡ take place (take len into)) × (new.stage ≡ Closed)))
      (sym there ∙ is) (some, sym (take-take end len into few), closed);
}

-- nothing came, and none of a line of HTTP would end there
pub none_passed : {S E : Type 0} (comes : S → List ℕ → Type 0) (result : Result ℕ E) (old mid new : OwnLines S)
    (room len : ℕ) (into : List ℕ) (is_full : Bool) → old.stage ≢ Closed → Took comes old.source (take len into)
    mid.source →
    len ≡ 0 → length into ≡ room → is_full ≡ eqb (length into) 0 → mid.stage ≡ old.stage →
    line_begun mid ≡ line_begun old →
    length (line_begun old) ≤ 4097 → IfOk result (λ n. n ≡ 0) →
    OnOk result (is_full ≡ false → is_of_http (line_begun mid) ≡ false) →
    OnOk result (new ≡ mid) → IfOk result (λ n. Passed comes old room (take n into) new)
none_passed comes (Err e) old mid new room len into is_full unclosed took none same full stage line few nothing ended
    is = tt
none_passed comes (Ok n) old mid new room len into is_full unclosed took none same full stage line few nothing ended
    is = record {
      came = [];
      took = subst (λ (s : OwnLines _). Took comes old.source [] s.source) (sym is)
          (subst (λ k. Took comes old.source (take k into) mid.source) none took);
      fits = omega arith;
      ended = λ _ room_there. ap is_of_http (sym line) ∙
          ended (full ∙ ne_eqb (length into) 0 (λ z. absurd (omega (arith, z, same, room_there))));
      judged = subst (λ (p : Option ℕ). MatchOption p
          ((take n into ≡ []) × (line_begun new ≡ take 4097 (line_begun old)) ×
          (new.stage ≡ old.stage)) (λ place. (0 < place) × (take n into ≡ take place []) × (new.stage ≡ Closed)))
          (sym (goes_on old.stage (line_begun old) unclosed)) (
            ap (λ k. take k into) nothing,
            ap (λ (s : OwnLines _). line_begun s) is ∙ line ∙ sym (take_all 4097 (line_begun old) few),
            ap (λ (s : OwnLines _). s.stage) is ∙ stage,
          );
    }
