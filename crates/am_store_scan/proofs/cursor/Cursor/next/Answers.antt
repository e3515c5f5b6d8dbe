use Rattle.std.proofs.Common.{◌≡◌, [], ◌∷◌, Option, Some, slice_get, drop, sym, ap, ◌∙◌, subst}
use Rattle.std.specs.Option.{MatchOption}
use Rattle.std.specs.List.{cons_option}
use Rattle.std.specs.BinaryHeap.{heap_items, IsUpperBound}
use Rattle.am_index.specs.Content.{content}
use Rattle.am_store_scan.specs.Heads.{Stand, head_cmp}
use Rattle.am_store_scan.specs.Cursors.{AreAhead, rows_ahead}
use Rattle.am_store_scan.proofs.FirstRecords.{at_end, none_left, standing, moves_on, moves_first, ends_on, ends_first}
use Rattle.am_store_scan.proofs.FirstRecords.{is_first}
use Rattle.am_store_scan.proofs.FirstRecords.{is_rest}
use Rattle.am_store_scan.proofs.cursor.Cursor.next.Goals as goal
use Rattle.am_store_scan.proofs.cursor.Cursor.next.Goals.{in-Some-1, in-None-1}

pub returns-in_default-clause-record : goal.returns-in_default-clause-record
returns-in_default-clause-record g c =
    let back = g.D.Direction.is_back in
    let heads = cons_option c.self.inside.first (heap_items c.self.inside.others) in
    let none = none_left back c.self.inside.first (heap_items c.self.inside.others) c.self.invariant.beside
    c.in_default.is in
    ap (λ rows. slice_get rows 0) (sym (at_end back heads c.self.inside.range (content c.self.inside.parts.now.entries)
    none) ∙ c.self.view_is)

pub returns-in_default-clause-rest : goal.returns-in_default-clause-rest
returns-in_default-clause-rest g c =
    let back = g.D.Direction.is_back in
    let heads = cons_option c.self.inside.first (heap_items c.self.inside.others) in
    let none = none_left back c.self.inside.first (heap_items c.self.inside.others) c.self.invariant.beside
    c.in_default.is in
    let end = at_end back heads c.self.inside.range (content c.self.inside.parts.now.entries) none in
    end ∙ ap (drop 1) (sym end ∙ c.self.view_is)

pub move_on-requires-clause-reads : goal.move_on-requires-clause-reads
move_on-requires-clause-reads g c =
    let back = g.D.Direction.is_back in
    let es = c.self.inside.parts.now.entries in
    let range = c.self.inside.range in
    let others = heap_items c.self.inside.others in
    let h = c.in-Some.head in
    let ahead = subst (λ (o : Option Stand). AreAhead back es range (cons_option o others)) c.in-Some.is
    c.self.invariant.ahead in
    let least = subst (λ (o : Option Stand). MatchOption o (others ≡ []) (λ g. IsUpperBound (head_cmp back) g others))
    c.in-Some.is c.self.invariant.beside.greatest in
    (standing back h others ahead least).reads

pub invariant_of-self-then-move_on : goal.invariant_of-self-then-move_on
invariant_of-self-then-move_on g c =
    let back = g.D.Direction.is_back in
    let es = c.self.inside.parts.now.entries in
    let range = c.self.inside.range in
    let others = heap_items c.self.inside.others in
    let h = c.in-Some.head in
    let ahead = subst (λ (o : Option Stand). AreAhead back es range (cons_option o others)) c.in-Some.is
    c.self.invariant.ahead in
    let least = subst (λ (o : Option Stand). MatchOption o (others ≡ []) (λ g. IsUpperBound (head_cmp back) g others))
    c.in-Some.is c.self.invariant.beside.greatest in
    record {
      beside = c.keep_first.ensures.first;
      ahead = moves_on back h others ahead least c.move_on.new.self (c.move_on.ensures.moved c.if-move_on.true)
          (c.keep_first.new.head ∷ heap_items c.keep_first.new.others) c.keep_first.ensures.same;
    }

pub invariant_of-self-else-move_on : goal.invariant_of-self-else-move_on
invariant_of-self-else-move_on g c =
    let back = g.D.Direction.is_back in
    let es = c.self.inside.parts.now.entries in
    let range = c.self.inside.range in
    let others = heap_items c.self.inside.others in
    let h = c.in-Some.head in
    let ahead = subst (λ (o : Option Stand). AreAhead back es range (cons_option o others)) c.in-Some.is
    c.self.invariant.ahead in
    let least = subst (λ (o : Option Stand). MatchOption o (others ≡ []) (λ g. IsUpperBound (head_cmp back) g others))
    c.in-Some.is c.self.invariant.beside.greatest in
    record {
      beside = c.pop_first.ensures.first;
      ahead = ends_on back h others ahead least (c.move_on.ensures.ended c.if-move_on.false)
          (cons_option c.pop_first.result (heap_items c.pop_first.new.others)) c.pop_first.ensures.same;
    }

pub returns-then-move_on-clause-record : goal.returns-then-move_on-clause-record
returns-then-move_on-clause-record g c =
    let back = g.D.Direction.is_back in
    let es = c.self.inside.parts.now.entries in
    let range = c.self.inside.range in
    let others = heap_items c.self.inside.others in
    let h = c.in-Some.head in
    let ahead = subst (λ (o : Option Stand). AreAhead back es range (cons_option o others)) c.in-Some.is
    c.self.invariant.ahead in
    let least = subst (λ (o : Option Stand). MatchOption o (others ≡ []) (λ g. IsUpperBound (head_cmp back) g others))
    c.in-Some.is c.self.invariant.beside.greatest in
    let laws = c.content_follows.ensures.edits es c.self.invariant.ahead.sound.rising
    c.self.invariant.ahead.sound.one_place in
    let seen = sym c.self.view_is ∙ ap (λ (o : Option Stand). rows_ahead back (cons_option o others) range (content es))
    c.in-Some.is in
    ap Some c.record.ensures ∙ is_first (seen ∙ moves_first back h others ahead least c.move_on.new.self
    (c.move_on.ensures.moved c.if-move_on.true) (c.keep_first.new.head ∷ heap_items c.keep_first.new.others)
    c.keep_first.ensures.same laws)

pub returns-then-move_on-clause-rest : goal.returns-then-move_on-clause-rest
returns-then-move_on-clause-rest g c =
    let back = g.D.Direction.is_back in
    let es = c.self.inside.parts.now.entries in
    let range = c.self.inside.range in
    let others = heap_items c.self.inside.others in
    let h = c.in-Some.head in
    let ahead = subst (λ (o : Option Stand). AreAhead back es range (cons_option o others)) c.in-Some.is
    c.self.invariant.ahead in
    let least = subst (λ (o : Option Stand). MatchOption o (others ≡ []) (λ g. IsUpperBound (head_cmp back) g others))
    c.in-Some.is c.self.invariant.beside.greatest in
    let laws = c.content_follows.ensures.edits es c.self.invariant.ahead.sound.rising
    c.self.invariant.ahead.sound.one_place in
    let seen = sym c.self.view_is ∙ ap (λ (o : Option Stand). rows_ahead back (cons_option o others) range (content es))
    c.in-Some.is in
    is_rest (seen ∙ moves_first back h others ahead least c.move_on.new.self (c.move_on.ensures.moved c.if-move_on.true)
    (c.keep_first.new.head ∷ heap_items c.keep_first.new.others) c.keep_first.ensures.same laws)

pub returns-else-move_on-clause-record : goal.returns-else-move_on-clause-record
returns-else-move_on-clause-record g c =
    let back = g.D.Direction.is_back in
    let es = c.self.inside.parts.now.entries in
    let range = c.self.inside.range in
    let others = heap_items c.self.inside.others in
    let h = c.in-Some.head in
    let ahead = subst (λ (o : Option Stand). AreAhead back es range (cons_option o others)) c.in-Some.is
    c.self.invariant.ahead in
    let least = subst (λ (o : Option Stand). MatchOption o (others ≡ []) (λ g. IsUpperBound (head_cmp back) g others))
    c.in-Some.is c.self.invariant.beside.greatest in
    let laws = c.content_follows.ensures.edits es c.self.invariant.ahead.sound.rising
    c.self.invariant.ahead.sound.one_place in
    let seen = sym c.self.view_is ∙ ap (λ (o : Option Stand). rows_ahead back (cons_option o others) range (content es))
    c.in-Some.is in
    ap Some c.record.ensures ∙ is_first (seen ∙ ends_first back h others ahead least
    (c.move_on.ensures.ended c.if-move_on.false) (cons_option c.pop_first.result
    (heap_items c.pop_first.new.others)) c.pop_first.ensures.same laws)

pub returns-else-move_on-clause-rest : goal.returns-else-move_on-clause-rest
returns-else-move_on-clause-rest g c =
    let back = g.D.Direction.is_back in
    let es = c.self.inside.parts.now.entries in
    let range = c.self.inside.range in
    let others = heap_items c.self.inside.others in
    let h = c.in-Some.head in
    let ahead = subst (λ (o : Option Stand). AreAhead back es range (cons_option o others)) c.in-Some.is
    c.self.invariant.ahead in
    let least = subst (λ (o : Option Stand). MatchOption o (others ≡ []) (λ g. IsUpperBound (head_cmp back) g others))
    c.in-Some.is c.self.invariant.beside.greatest in
    let laws = c.content_follows.ensures.edits es c.self.invariant.ahead.sound.rising
    c.self.invariant.ahead.sound.one_place in
    let seen = sym c.self.view_is ∙ ap (λ (o : Option Stand). rows_ahead back (cons_option o others) range (content es))
    c.in-Some.is in
    elim c.match-self-pop_first.branch [
      | in-Some-1 w ↦ w.self-is ∙ is_rest (seen ∙ ends_first back h others ahead least
          (c.move_on.ensures.ended c.if-move_on.false) (cons_option c.pop_first.result
          (heap_items c.pop_first.new.others)) c.pop_first.ensures.same laws)
      | in-None-1 w ↦ w.self-is ∙ is_rest (seen ∙ ends_first back h others ahead least
          (c.move_on.ensures.ended c.if-move_on.false) (cons_option c.pop_first.result
          (heap_items c.pop_first.new.others)) c.pop_first.ensures.same laws)
    ]
