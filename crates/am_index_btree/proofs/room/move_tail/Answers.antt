use Rattle.std.proofs.Common.{◌≡◌, ◌++◌, ℕ, [], ◌∷◌, length, reverse, rules, append_assoc, ap, sym, ◌∙◌, arith}
use Rattle.std.proofs.lemmas.List.{reverse-append, length-append}
use Rattle.std.proofs.lemmas.List.Edits.{insert_end, length-insert}
use Rattle.std.specs.List.{insert}
use Rattle.am_index_btree.proofs.room.move_tail.Goals as goal

pub loop-from-preserved : goal.loop-from-preserved
loop-from-preserved g c =
    let xs = c.pop.new.self.items in let to = c.loop-from.to.items in let x = c.in-Some.x in
    let turned : reverse c.put.new.v.items ≡ x ∷ reverse to =
    ap reverse (c.put.ensures.items ∙ ap (λ (n : ℕ). insert to n x) (c.len-end.ensures ∙ c.loop-from.to.ok.0) ∙
    insert_end to x) ∙ reverse-append to (x ∷ []) in
    record {
      joined = ap (λ l. xs ++ l) turned ∙ sym (append_assoc xs (x ∷ []) (reverse to)) ∙
          ap (λ l. l ++ reverse to) (sym c.in-Some.ensures.items) ∙ c.loop-from.invariant.joined;
      lens = omega (
        arith,
        c.loop-from.invariant.lens,
        ap length c.in-Some.ensures.items,
        length-append xs (x ∷ []),
        c.pop.new.self.ok.0,
        c.loop-from.from.ok.0,
        ap length c.put.ensures.items,
        length-insert to c.len-end.result x (omega (arith, c.len-end.ensures, c.loop-from.to.ok.0)),
        c.put.new.v.ok.0,
        c.loop-from.to.ok.0,
      );
      left = omega (
        arith,
        c.loop-from-test.true,
        c.len.ensures,
        ap length c.in-Some.ensures.items,
        length-append xs (x ∷ []),
        c.pop.new.self.ok.0,
        c.loop-from.from.ok.0,
      );
      capacity = search rules;
    }
