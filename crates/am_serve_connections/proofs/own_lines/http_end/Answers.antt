use Rattle.std.proofs.Common.{◌∙◌, ◌+◌, ◌-◌, ℕ, List, length, take, drop, sym, ap, rules}
use Rattle.std.proofs.lemmas.List.{take_rest}
use Rattle.am_line_source.specs.Lines.{HasNoLf}
use Rattle.am_serve_connections.specs.OwnLines.{http_end, line_behind, moved_on}
use Rattle.am_serve_connections.proofs.HttpEnds.{end_found, end_later, line_later, line_fits, none_found, line_left}
use Rattle.am_serve_connections.proofs.own_lines.http_end.Goals as goal

pub returns-then-end-clause-end : goal.returns-then-end-clause-end
returns-then-end-clause-end c =
    let bytes = c.args.bytes.now in
    let start = c.lines.start in
    end_found c.args.line.now.bytes.items c.lines.line.bytes.items bytes
    (take (length bytes - start) (drop start bytes))
    c.in-Some.rest.now start c.lines.invariant.end (take_rest bytes start) c.in-Some.ensures.one c.in-Some.ensures.line
    (sym c.end.ensures.http ∙ c.if-end.true)

pub lines-preserved : goal.lines-preserved
lines-preserved c =
    let bytes = c.args.bytes.now in
    let start = c.lines.start in
    let first = c.args.line.now.bytes.items in
    let line = c.lines.line.bytes.items in
    let seg = c.in-Some.rest.now in
    let rest = take (length bytes - start) (drop start bytes) in
    let next = (start + length seg) + 1 in record {
      fits = line_fits bytes rest seg start c.lines.invariant.fits (take_rest bytes start) c.in-Some.ensures.line;
      end = end_later first line bytes rest seg start c.lines.invariant.end (take_rest bytes start)
          c.in-Some.ensures.one c.in-Some.ensures.line (sym c.end.ensures.http ∙ c.if-end.false) ∙
          ap (λ (l : List ℕ). moved_on next (http_end l (drop next bytes))) (sym c.end.ensures.next);
      line = line_later first line bytes rest seg start c.lines.invariant.line (take_rest bytes start)
          c.in-Some.ensures.one c.in-Some.ensures.line ∙
          ap (λ (l : List ℕ). line_behind l (drop next bytes)) (sym c.end.ensures.next);
    }

pub returns-clause-end : goal.returns-clause-end
returns-clause-end c =
    let bytes = c.args.bytes.now in
    let start = c.lines.start in
    let rest = take (length bytes - start) (drop start bytes) in
    let none : HasNoLf rest = search rules in
    none_found c.args.line.now.bytes.items c.lines.line.bytes.items bytes rest start c.lines.invariant.end
    (take_rest bytes start) none

pub returns-clause-line : goal.returns-clause-line
returns-clause-line c =
    let bytes = c.args.bytes.now in
    let start = c.lines.start in
    let rest = take (length bytes - start) (drop start bytes) in
    let none : HasNoLf rest = search rules in
    c.add.ensures ∙ ap (λ (l : List ℕ). take 4097 l)
    (sym (line_left c.args.line.now.bytes.items c.lines.line.bytes.items
    bytes rest start c.lines.invariant.line (take_rest bytes start) none))
