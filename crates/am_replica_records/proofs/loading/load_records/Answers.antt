use Rattle.std.proofs.Common.{◌≡◌, ◌<◌, ◌++◌, [], ℕ, zero, suc, length, true, false, arith, refl, sym, subst, ◌∙◌}
use Rattle.std.specs.Prelude.{◌==◌}
use Rattle.std.specs.FinMap.{is_sorted}
use Rattle.std.proofs.lemmas.Bool.{true≢false, eqb-true}
use Rattle.std.proofs.lemmas.List.{take-append-drop, nil_from_length}
use Rattle.am_record.specs.OrderedKey.{key_cmp}
use Rattle.am_record.specs.Plain.{Records}
use Rattle.am_record.proofs.RisingRecords.{sorted_run}
use Rattle.am_replica_records.proofs.Rows.{AreLoaded, sorted_front, sorted_back, loads_run, all_loaded}
use Rattle.am_replica_records.proofs.loading.load_records.Goals as goal

some_left : (n : ℕ) → (n == 0) ≡ false → 0 < n
some_left zero none = absurd (true≢false none)
some_left (suc n) none = omega arith

pub loop-rest-init : goal.loop-rest-init
loop-rest-init g c = record {
  idle = c.requires.idle;
  loaded = record { front = []; is = refl; map = c.requires.none };
}

pub load_run-requires-clause-rising : goal.load_run-requires-clause-rising
load_run-requires-clause-rising g c =
    let front = c.split_at.result.0.now in
    let back = c.split_at.result.1.now in
    let loaded = c.loop-rest.invariant.loaded in
    let whole : c.loop-rest.rest.now ≡ front ++ back =
    sym (take-append-drop _ c.loop-rest.rest.now)
    ∙ (λ i. sym c.split_at.ensures.front i ++ sym c.split_at.ensures.back i) in
    let left : 0 < length c.loop-rest.rest.now =
    some_left (length c.loop-rest.rest.now) (sym c.is_empty.ensures ∙ c.loop-rest-test.true) in
    let some : 0 < length front = omega (arith, c.split_at.ensures.front_len, c.min.ensures) in
    let rising : is_sorted key_cmp c.loop-rest.rest.now ≡ true =
    sorted_back loaded.front c.loop-rest.rest.now
    (subst (λ rows. is_sorted key_cmp rows ≡ true) loaded.is c.requires.rising) in
    sorted_run front some (sorted_front front back (subst (λ rows. is_sorted key_cmp rows ≡ true) whole rising))

pub loop-rest-preserved : goal.loop-rest-preserved
loop-rest-preserved g c =
    let front = c.split_at.result.0.now in
    let back = c.split_at.result.1.now in
    let m = g.M.Machine.map c.loop-rest.machine in
    let whole : c.loop-rest.rest.now ≡ front ++ back =
    sym (take-append-drop _ c.loop-rest.rest.now)
    ∙ (λ i. sym c.split_at.ensures.front i ++ sym c.split_at.ensures.back i) in
    record {
      idle = c.in_ok-load_run.ensures.idle;
      loaded = loads_run c.args.records.now front back m (g.M.Machine.map c.load_run.new.machine) c.requires.rising
          (subst (λ rest. AreLoaded c.args.records.now rest m) whole c.loop-rest.invariant.loaded)
          c.in_ok-load_run.ensures.loaded;
    }

pub returns-clause-loaded : goal.returns-clause-loaded
returns-clause-loaded g c =
    all_loaded c.args.records.now c.loop-rest.rest.now (g.M.Machine.map c.loop-rest.machine)
    c.loop-rest.invariant.loaded
    (nil_from_length c.loop-rest.rest.now
    (eqb-true (length c.loop-rest.rest.now) 0 (sym c.is_empty.ensures ∙ c.loop-rest-test.false)))
