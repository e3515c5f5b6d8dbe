-- One line more.
use Rattle.std.proofs.Common.{◌≡◌, ◌≤◌, ℕ, ◌+◌, ◌*◌, length, List, [], ◌∷◌, ◌++◌, true, map, sym, ap}
use Rattle.std.proofs.Common.{◌∙◌, arith, append_assoc}
use Rattle.std.proofs.lemmas.Bool.{leb-true}
use Rattle.std.proofs.lemmas.List.{map-append, length-append}
use Rattle.am_record.specs.declared.step.Op.{Op}
use Rattle.am_line_source.specs.Lines.{line_of, lines_of, HasNoLf}
use Rattle.am_line_source.proofs.CutLines.{lines_of-ended}
use Rattle.am_line_dialogue.specs.ParsedLine.{parsed}
use Rattle.am_line_dialogue.specs.declared.lines.ParsedLine.TheVariants.{Asked}
use Rattle.am_replica.specs.Bodies.{kept_ops, own_behind}
use Rattle.am_replica.proofs.Kept.{kept_twice, kept_push}
use Rattle.am_replica_blocks.specs.Blocks.{BlockLine, line_request, waiting, asked_ops}
use Rattle.am_replica_lines.specs.Lines.{at_work}
use Rattle.am_replica_lines.proofs.Lines.{waiting-push}
use Rattle.am_replica_trials.specs.Trials.{TrialState, HasLines, has_room}

-- ---- the bytes with one line more

whole_push : (text line : List ℕ) → HasNoLf line →
    ((more : List ℕ) → lines_of (text ++ more) ≡ lines_of text ++ lines_of more) → (more : List ℕ) →
    lines_of ((text ++ (line ++ 10 ∷ [])) ++ more) ≡ lines_of text ++ (line_of line ∷ lines_of more)
whole_push text line one whole more =
    ap lines_of (append_assoc text (line ++ 10 ∷ []) more)
    ∙ whole ((line ++ 10 ∷ []) ++ more)
    ∙ ap (λ bytes. lines_of text ++ lines_of bytes) (append_assoc line (10 ∷ []) more)
    ∙ ap (λ lines. lines_of text ++ lines) (lines_of-ended line more one)

lines_push : (text line : List ℕ) → HasNoLf line →
    ((more : List ℕ) → lines_of (text ++ more) ≡ lines_of text ++ lines_of more) →
    lines_of (text ++ (line ++ 10 ∷ [])) ≡ lines_of text ++ line_of line ∷ []
lines_push text line one whole =
    whole (line ++ 10 ∷ []) ∙ ap (λ lines. lines_of text ++ lines) (lines_of-ended line [] one)

-- ---- its operations

-- what was kept and one operation more is kept as all of them are
pub kept_more : (ops : List Op) (op : Op) → kept_ops (kept_ops ops ++ op ∷ []) ≡ kept_ops (ops ++ op ∷ [])
kept_more ops op =
    kept_push [] (kept_ops ops) op
    ∙ ap (λ own. own_behind own op) (kept_twice ops)
    ∙ sym (kept_push [] ops op)

-- ---- the transaction with one line more

pub has_more : (own : List BlockLine) (s s' : TrialState) (line : List ℕ) (l : BlockLine) → HasLines own s →
    HasNoLf line →
    has_room s line ≡ true → parsed (line_of line) ≡ Asked (line_request l) →
    s'.lines ≡ s.lines ++ (line ++ 10 ∷ []) → s'.answered ≡ s.answered + 1 →
    s'.transaction.ops ≡ kept_ops (asked_ops [] (own ++ l ∷ [])) →
    s'.session ≡ at_work (waiting (waiting [] own) (l ∷ [])) →
    s'.is_over ≡ s'.transaction.is_over → HasLines (own ++ l ∷ []) s'
has_more own s s' line l has one room asks lines answered ops session over =
    let put : lines_of s'.lines ≡ lines_of s.lines ++ line_of line ∷ [] =
    ap lines_of lines ∙ lines_push s.lines line one has.whole in
    let long : length s'.lines ≡ length s.lines + (length line + 1) =
    ap length lines ∙ length-append s.lines (line ++ 10 ∷ [])
    ∙ ap (λ n. length s.lines + n) (length-append line (10 ∷ [])) in
    let fits : length s.lines + 99 * s.answered + length line + 100 ≤ 64000000 =
    leb-true (length s.lines + 99 * s.answered + length line + 100) 64000000 room in
    record {
      asks =
          ap (λ ls. map parsed ls) put
          ∙ map-append parsed (lines_of s.lines) (line_of line ∷ [])
          ∙ (λ i. has.asks i ++ asks i ∷ [])
          ∙ sym (map-append (λ (x : BlockLine). Asked (line_request x)) own (l ∷ []));
      whole = λ more.
          ap (λ bytes. lines_of (bytes ++ more)) lines
          ∙ whole_push s.lines line one has.whole more
          ∙ sym (append_assoc (lines_of s.lines) (line_of line ∷ []) (lines_of more))
          ∙ ap (λ ls. ls ++ lines_of more) (sym put);
      each = omega (arith, answered, has.each, length-append own (l ∷ []));
      ops = ops;
      waits = session ∙ ap at_work (sym (waiting-push [] own l));
      few = omega (arith, has.few);
      over = over;
    }
