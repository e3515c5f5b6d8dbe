-- All that a drain took, and the rest after it.
use Rattle.std.proofs.Common.{◌≡◌, ℕ, List, [], ◌++◌, length, sym, ap, ◌∙◌, subst, length-append}
use Rattle.am_law_serial.specs.Trace.{Trace}
use Rattle.am_latch.specs.Receipts.{SeatState}
use Rattle.am_trace_writer.specs.Events.{add_count}
use Rattle.am_serve_drain.specs.Pieces.{HasTaken}
use Rattle.am_serve_drain.proofs.TakenPieces.{counted_both}
use Rattle.am_serve.specs.ServerTraces.{IsTraceOf, HasStored}
use Rattle.am_serve.specs.Pieces.{HasClosed}
use Rattle.am_serve.specs.declared.server_trace.ServerTrace.{ServerTrace}

module _ {T : Type 0} (took : T → Trace → T → Type 0) where
  -- all that was taken from the first, and the rest
  pub stored : ((a b c : T) (x y : Trace) → took a x b → took b y c → took a (x ++ y) c) → (all : Trace) (a b : T)
      (n most_runs : ℕ) (seats : List SeatState) (s : ServerTrace T) → HasTaken took [] a 0 all b n →
      HasClosed took most_runs seats all b n s → HasStored took most_runs a seats s
  stored both all a b n most_runs seats s f h = record {
    trace = f.piece ++ h.rest;
    passed = both a b s.pieces f.piece h.rest f.passed h.passed;
    count = h.count ∙ ap (λ k. add_count k (length h.rest)) f.count ∙
        counted_both 0 (length f.piece) (length h.rest) ∙ ap (add_count 0) (sym (length-append f.piece h.rest));
    sound = subst (λ (l : Trace). IsTraceOf most_runs seats (l ++ h.rest) s.commits) f.longer h.sound;
  }
