-- `of` moves the pointer and the heap's handle over.
use Rattle.std.proofs.Common.{◌≡◌, [], ◌∷◌, refl}
use mir.Val.{Val}
use base.Logic.{SProp, emp}
use base.Fml.{ftrue}
use types.Kit.{‵, raw, ◌⊛◌, ◌$◌, ◌∵◌, !, qed, by, move, keep, split, fsplit, fjoin, suffices, use0}
use contract.Monad.{fact, fact_i}
use contract.Running.{tables}
use denote.Exit.{yes}
use denote.RattleType.{RattleType, owns}
use denote.Signature.{types_at, plain}
use denote.RawPtr.{ptr_val}
use denote.Steps.{nothing}
use denote.Triple.Walked.{Stays, stay_dropped, walk_of, Goes-dropped}
use Rattle.std.proofs.raw_atomic.Walks.{proved_at, leaves}
use Rattle.am_c_handle.proofs.LooseValues.{both}
use Rattle.am_c_handle.proofs.HeldValues.{Held, held_out, held_in}
use Rattle.am_c_handle.proofs.Moves.{moves}
use Rattle.am_c_replica.specs.Rows.{waits_row}
use Rattle.am_c_replica.specs.contracts.waits_handle.WaitsHandle as handle
use Rattle.am_c_replica.specs.contracts.waits_handle.WaitsHandle.of.{ended, clauses}
use Rattle.am_c_replica.specs.contracts.waits_handle.WaitsHandle.of.Key.{name as #self}
use Rattle.am_c_replica.proofs.waits_handle.WaitsHandle.of.Statement.{statement}
use Rattle.am_c_replica.proofs.waits_handle.WaitsHandle.of.Code as code

pub of_spec : {M : Type 1} → statement M
of_spec 𝓤 𝓛 𝓜 𝓡 wired =
    let H = 𝓛.H in let 𝓣 = tables 𝓤 H 𝓜 𝓡 𝓡.env in let c = clauses 𝓛 𝓜.mem 𝓡.returns in
    let R : RattleType = waits_row in let Hr : RattleType = Held R in let Out : RattleType = handle.the_row in
    let hs : Stays ended.signature.params ended.kept = (stay_dropped (plain (λ _. Hr)) yes, tt) in
    proved_at 𝓛 ended hs c 𝓜 𝓡 (Goes-dropped 𝓛 0 (plain (λ _. Hr)) yes (λ κs x f. refl), tt) #self code.function
    (code.unfolded 𝓤 H 𝓜 𝓡 wired) (λ z are.
    let κs = z.0.0 in let d = z.0.3.0 in let vs = z.0.4.0 in let Post : Val → SProp 𝓤 = (walk_of 𝓛 ended hs c).post z in
    let made : Out.Denot = record { at = d.at; alloc = d.alloc; held = d.value } in
    qed 𝓛 ((‵ ftrue ⊛ ‵ (owns (types_at ended.signature.params κs) z.0.3 z.0.4)) ∷ raw ((c κs z.0.3).requires z.1) ∷ [])
    ∵ split ! $ move ! (1 ∷ []) $ fsplit ! $ held_out R ! d vs (λ h is fits. let w : Val = both (ptr_val d.at) h in
    suffices ! (Post w) (moves 𝓛 𝓣.C 𝓣.Λ _ _ d.at h vs Post is fits) $
    held_in R ! h d $ use0 𝓛 (raw (fact 𝓤 (made.held ≡ d.value))) (fact_i 𝓤 (made.held ≡ d.value) (emp 𝓤) refl) $
    nothing ! $ nothing ! $ fjoin ! $ keep ! (4 ∷ 0 ∷ 2 ∷ 1 ∷ []) $ by !
    (leaves 𝓛 ended hs c z w made (tt, tt) (tt, tt))))
