-- Lines of a block, one after another.
use Rattle.std.proofs.Common.{◌≡◌, ◌≢◌, inl, inr, ℕ, ◌+◌, length, List, [], ◌∷◌, ◌++◌, take, false, ◌&&◌}
use Rattle.std.proofs.Common.{zero, suc}
use Rattle.std.proofs.Common.{cond, map, Option, Some, None, drop, eq-eqb, refl, sym, ap, ◌∙◌, arith}
use Rattle.std.proofs.Common.{append_assoc}
use Rattle.std.specs.Prelude.{nat_le}
use Rattle.std.specs.List.{list_all}
use Rattle.std.specs.Option.{option_to_list}
use Rattle.std.proofs.Math.Bool.{and-false}
use Rattle.std.proofs.lemmas.Bool.{cond_both, leb-true, leb-false, ne_eqb}
use Rattle.std.proofs.lemmas.List.{map-append, length-append, take_all, take-append-le}
use Rattle.std.proofs.lemmas.List.Folds.{list_all-append}
use Rattle.am_record.specs.Records.{Records}
use Rattle.am_record.specs.declared.step.Op.{Op}
use Rattle.am_line_source.specs.Lines.{pieces_of, without_cr, line_of, HasNoLf, has_lf}
use Rattle.am_line_source.proofs.CutLines.{pieces_of-ended, pieces_of-open, without_cr-push}
use Rattle.am_line_source.proofs.LineEnds.{no_lf}
use Rattle.am_line_text.specs.declared.fault.LineFault.{LineFault}
use Rattle.am_line_wire.specs.declared.request.Request.{Request}
use Rattle.am_line_wire.specs.LineReadings.{reading, MayRead}
use Rattle.am_line_dialogue.specs.Actions.{with_staged, staged_left}
use Rattle.am_line_dialogue.specs.ParsedLine.{Line as TextLine, parsed, parsed_of, MayParse}
use Rattle.am_line_dialogue.specs.Session.{SessionState}
use Rattle.am_line_dialogue.specs.declared.lines.ParsedLine.TheVariants.{Asked, Faulty}
use Rattle.am_replica_blocks.specs.Blocks.{BlockLine, Asks, Stages, line_request, staged_by, waiting, asked_ops}
use Rattle.am_replica_lines.specs.Lines.{said, asked_by, is_own, at_work, op_by, TakesLine}

-- ---- what a line was parsed as, where it wasn't refused memory

asks_whole : (text : List ℕ) (read : _) (request : Request) → MayRead (reading text) read →
    Asked request ≡ parsed_of read → parsed_of (reading text) ≡ Asked request
asks_whole text read request (inl is) same = ap parsed_of (sym is) ∙ sym same
asks_whole text read request (inr (is, due)) same = absurd (asked_no_fault request (same ∙ ap parsed_of is))
  where
    asked_no_fault : (request : Request) → Asked request ≡ Faulty LineFault.NoMemory → ⊥
    asked_no_fault request e = cc

pub parsed_asks : (line : TextLine) (request : Request) → MayParse line (Asked request) → parsed line ≡ Asked request
parsed_asks None request h = cc
parsed_asks (Some text) request h = asks_whole text h.0 request h.1 h.2

-- ---- the first line

pub last_piece : (bytes : List ℕ) → bytes ≢ [] → has_lf bytes ≡ false → pieces_of bytes ≡ bytes ∷ []
last_piece [] some h = absurd (some refl)
last_piece (c ∷ bytes) some h = pieces_of-open c bytes (no_lf (c ∷ bytes) h)

pub first_piece : (bytes line : List ℕ) → bytes ≡ line ++ 10 ∷ drop (length line + 1) bytes → HasNoLf line →
    pieces_of bytes ≡ line ∷ pieces_of (drop (length line + 1) bytes)
first_piece bytes line is one = ap pieces_of is ∙ pieces_of-ended line (drop (length line + 1) bytes) one

-- ---- the end of a line

pub with_cr : (line front : List ℕ) (last : ℕ) → line ≡ front ++ last ∷ [] → last ≡ 13 → front ≡ without_cr line
with_cr line front last is cr = sym (ap without_cr is ∙ without_cr-push front last
    ∙ ap (λ b. cond b front (front ++ last ∷ [])) (eq-eqb last 13 cr))

pub with_none : (line front : List ℕ) (last : ℕ) → line ≡ front ++ last ∷ [] → (last ≡ 13 → ⊥) → line ≡ without_cr line
with_none line front last is other = is ∙ sym (ap without_cr is ∙ without_cr-push front last
    ∙ ap (λ b. cond b front (front ++ last ∷ [])) (ne_eqb last 13 other))

-- ---- all lines

pub ops_of-push : (staged : Records) (lines : List BlockLine) (line : BlockLine) →
    asked_ops staged (lines ++ line ∷ []) ≡ asked_ops staged lines ++ option_to_list (op_by (waiting staged lines) line)
ops_of-push staged [] (Asks op) = refl
ops_of-push staged [] (Stages records) = refl
ops_of-push staged (Asks op ∷ lines) line =
    ap (λ ops. with_staged staged op ∷ ops) (ops_of-push (staged_left staged op) lines line)
ops_of-push staged (Stages records ∷ lines) line = ops_of-push (staged_by staged records) lines line

pub waiting-push : (staged : Records) (lines : List BlockLine) (line : BlockLine) →
    waiting staged (lines ++ line ∷ []) ≡ waiting (waiting staged lines) (line ∷ [])
waiting-push staged [] line = refl
waiting-push staged (Asks op ∷ lines) line = waiting-push (staged_left staged op) lines line
waiting-push staged (Stages records ∷ lines) line = waiting-push (staged_by staged records) lines line

-- ---- the lines so far

-- those that were read are a block's lines, and the text goes on with the others
pub record Reads (text rest : List ℕ) (first number told : ℕ) (ops : List Op) (s : SessionState) : Type 0 where
  pub lines : List BlockLine
  pub asks : said text ≡ asked_by lines ++ said rest
  pub all : ops ≡ asked_ops [] lines
  pub at : s ≡ at_work (waiting [] lines)
  pub each : number ≡ length lines
  pub of_first : told ≡ length (asked_ops [] (take first lines))

pub reads_none : (text : List ℕ) (first : ℕ) (s : SessionState) → s ≡ at_work [] → Reads text text first 0 0 [] s
reads_none text first s at = record {
  lines = [];
  asks = refl;
  all = refl;
  at = at;
  each = refl;
  of_first = ap (λ lines. length (asked_ops [] lines)) (sym (take_none first));
}
  where
    take_none : (n : ℕ) → take {A = BlockLine} n [] ≡ []
    take_none zero = refl
    take_none (suc n) = refl

pub said-cut : (rest line after : List ℕ) → pieces_of rest ≡ line ∷ pieces_of after →
    said rest ≡ parsed (line_of line) ∷ said after
said-cut rest line after cut = ap (λ pieces. map parsed (map line_of pieces)) cut

first_told : (n first : ℕ) (lines : List BlockLine) (line : BlockLine) (told asked : ℕ) → n ≡ length lines →
    told ≡ length (asked_ops [] (take first lines)) → asked ≡ length (asked_ops [] (lines ++ line ∷ [])) →
    cond (nat_le (n + 1) first) asked told ≡ length (asked_ops [] (take first (lines ++ line ∷ [])))
first_told n first lines line told asked each of_first all = cond_both (nat_le (n + 1) first) asked told
    (λ t. t ≡ length (asked_ops [] (take first (lines ++ line ∷ []))))
    (λ is. all ∙ ap (λ ls. length (asked_ops [] ls)) (sym (take_all first (lines ++ line ∷ [])
    (omega (arith, leb-true (n + 1) first is, each, length-append lines (line ∷ []))))))
    (λ is. of_first ∙ ap (λ ls. length (asked_ops [] ls)) (sym (take-append-le first lines (line ∷ [])
    (omega (arith, leb-false (n + 1) first is, each)))))

pub read_more : (text rest line after : List ℕ) (first number told told' : ℕ) (ops ops' : List Op) (s s' : SessionState)
    (op : Option Op) (reads : Reads text rest first number told ops s) → pieces_of rest ≡ line ∷ pieces_of after →
    TakesLine (waiting [] reads.lines) (parsed (line_of line)) op s' → ops' ≡ ops ++ option_to_list op →
    told' ≡ cond (nat_le (number + 1) first) (length ops') told → Reads text after first (number + 1) told' ops' s'
read_more text rest line after first number told told' ops ops' s s' op reads cut takes put is =
    let lines = reads.lines in
    let all : ops' ≡ asked_ops [] (lines ++ takes.line ∷ []) =
    put ∙ (λ i. reads.all i ++ option_to_list (takes.by i)) ∙ sym (ops_of-push [] lines takes.line) in
    record {
      lines = lines ++ takes.line ∷ [];
      asks = reads.asks ∙ ap (λ more. asked_by lines ++ more)
          (said-cut rest line after cut ∙ ap (λ p. p ∷ said after) takes.asks)
          ∙ sym (append_assoc (asked_by lines) (Asked (line_request takes.line) ∷ []) (said after))
          ∙ ap (λ asked. asked ++ said after)
          (sym (map-append (λ (l : BlockLine). Asked (line_request l)) lines (takes.line ∷ [])));
      all = all;
      at = takes.left ∙ ap at_work (sym (waiting-push [] lines takes.line));
      each = omega (arith, reads.each, length-append lines (takes.line ∷ []));
      of_first = is ∙ first_told number first lines takes.line told (length ops') reads.each reads.of_first
          (ap length all);
    }

-- a line that is none of a block's is one of the text's
pub read_other : (text rest line after : List ℕ) (first number told : ℕ) (ops : List Op) (s : SessionState) →
    Reads text rest first number told ops s → pieces_of rest ≡ line ∷ pieces_of after →
    is_own (parsed (line_of line)) ≡ false → list_all is_own (said text) ≡ false
read_other text rest line after first number told ops s reads cut other =
    ap (list_all is_own) reads.asks
    ∙ list_all-append is_own (asked_by reads.lines) (said rest)
    ∙ ap (λ b. list_all is_own (asked_by reads.lines) && b) (ap (list_all is_own) (said-cut rest line after cut)
    ∙ ap (λ b. b && list_all is_own (said after)) other)
    ∙ and-false (list_all is_own (asked_by reads.lines))
