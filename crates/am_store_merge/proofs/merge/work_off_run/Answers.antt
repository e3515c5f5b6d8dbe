use Rattle.std.proofs.Common.{◌≡◌, ◌+◌, ◌-◌, take, length, refl, sym, ap, subst, ◌∙◌, arith}
use Rattle.std.specs.Prelude.{true, take_while}
use Rattle.std.proofs.lemmas.List.{take_rest}
use Rattle.am_index.specs.Rooms.{KeepRoom}
use Rattle.am_index.proofs.Rooms.{keep_all}
use Rattle.am_index_parts.specs.Partitions.{Partitions}
use Rattle.am_store_merge.specs.LockHolders.{holder_of}
use Rattle.am_store_merge.specs.Steps.{is_free_in, go_on_outside}
use Rattle.am_store_merge.proofs.MergeSteps.{starts, is_full, is_stretch, stands_first, within_all, goes_on, ends}
use Rattle.am_store_merge.proofs.MergeSteps.{keeps_room}
use Rattle.am_store_merge.proofs.MergeSteps.{has_none_left}
use Rattle.am_store_merge.proofs.merge.work_off_run.Goals as goal

pub loop-moved-init : goal.loop-moved-init
loop-moved-init g c = record {
  way = starts c.requires.sound (holder_of c.args.locks.now) c.args.limit c.args.range c.args.first.part;
  read = λ _. c.requires.read;
  runs = refl;
  rooms = keep_all c.args.parts.now.roomy c.args.parts.now.entries c.requires.room;
}

pub bring_home-count-requires : goal.bring_home-count-requires
bring_home-count-requires g c =
    stands_first c.requires.sound (holder_of c.args.locks.now) c.args.limit c.args.range
    c.loop-moved.invariant.way c.args.first c.requires.first refl
    (c.args.limit - c.loop-moved.moved) c.count_free-free.result c.entries-in-loop-moved.result.now
    (c.entries-in-loop-moved.ensures.all ∙ c.read_anew.ensures)

pub overflow_add-moved : goal.overflow_add-moved
overflow_add-moved g c =
    let read = c.entries-in-loop-moved.ensures.all ∙ c.read_anew.ensures in
    let counted : c.count_free-free.result ≡ length (take_while
    (is_free_in (holder_of c.args.locks.now) c.args.range)
    (take (c.args.limit - c.loop-moved.moved) c.entries-in-loop-moved.result.now)) =
    c.count_free-free.ensures ∙ ap (λ l. length (take_while (is_free_in (holder_of c.args.locks.now) c.args.range)
    (take (c.args.limit - c.loop-moved.moved) l)))
    (c.entries.ensures.all ∙ sym c.entries-in-loop-moved.ensures.all) in
    let stretch = is_stretch c.requires.sound (holder_of c.args.locks.now) c.args.limit c.args.range
    c.loop-moved.invariant.way c.args.first c.requires.first refl
    (c.args.limit - c.loop-moved.moved) c.count_free-free.result c.entries-in-loop-moved.result.now read counted in
    let all : c.args.limit ≡ c.loop-moved.moved + (c.args.limit - c.loop-moved.moved) =
    omega (arith, c.loop-moved-test.true) in
    omega (
      arith,
      c.ranges.limit.fits,
      within_all c.requires.sound (holder_of c.args.locks.now) c.args.limit
          c.args.range c.loop-moved.invariant.way (c.args.limit - c.loop-moved.moved) all
          (take c.count_free-free.result c.entries-in-loop-moved.result.now) stretch c.bring_home-count.result
          c.bring_home-count.ensures.most,
    )

pub note_left-requires : goal.note_left-requires
note_left-requires g c =
    let read = c.entries-in-loop-moved.ensures.all ∙ c.read_anew.ensures in
    let counted : c.count_free-free.result ≡ length (take_while
    (is_free_in (holder_of c.args.locks.now) c.args.range)
    (take (c.args.limit - c.loop-moved.moved) c.entries-in-loop-moved.result.now)) =
    c.count_free-free.ensures ∙ ap (λ l. length (take_while (is_free_in (holder_of c.args.locks.now) c.args.range)
    (take (c.args.limit - c.loop-moved.moved) l)))
    (c.entries.ensures.all ∙ sym c.entries-in-loop-moved.ensures.all) in
    let stretch = is_stretch c.requires.sound (holder_of c.args.locks.now) c.args.limit c.args.range
    c.loop-moved.invariant.way c.args.first c.requires.first refl
    (c.args.limit - c.loop-moved.moved) c.count_free-free.result c.entries-in-loop-moved.result.now read counted in
    let all : c.args.limit ≡ c.loop-moved.moved + (c.args.limit - c.loop-moved.moved) =
    omega (arith, c.loop-moved-test.true) in
    let rest = c.entries-then-count-lt-STRETCH.result.now in
    λ out. has_none_left c.requires.sound (holder_of c.args.locks.now) c.args.limit c.args.range
    c.loop-moved.invariant.way c.args.first c.requires.first refl
    (c.args.limit - c.loop-moved.moved) c.count_free-free.result rest
    (c.entries-then-count-lt-STRETCH.ensures.all ∙ c.read_anew.ensures) c.bring_home-count.result
    (c.loop-moved.moved + c.bring_home-count.result) c.bring_home-count.new.self.entries c.if-count-lt-STRETCH.true refl
    (goes_on c.requires.sound (holder_of c.args.locks.now) c.args.limit c.args.range c.loop-moved.invariant.way
    (c.args.limit - c.loop-moved.moved) all (take c.count_free-free.result c.entries-in-loop-moved.result.now) stretch
    c.bring_home-count.result c.bring_home-count.ensures.most
    (c.loop-moved.moved + c.bring_home-count.result) c.bring_home-count.new.self.entries refl
    c.bring_home-count.ensures.entries)
    (subst (λ l. go_on_outside c.args.range l ≡ true) (take_rest rest c.bring_home-count.result) out)

pub returns-then-count-lt-STRETCH-clause-far : goal.returns-then-count-lt-STRETCH-clause-far
returns-then-count-lt-STRETCH-clause-far g c =
    let read = c.entries-in-loop-moved.ensures.all ∙ c.read_anew.ensures in
    let counted : c.count_free-free.result ≡ length (take_while
    (is_free_in (holder_of c.args.locks.now) c.args.range)
    (take (c.args.limit - c.loop-moved.moved) c.entries-in-loop-moved.result.now)) =
    c.count_free-free.ensures ∙ ap (λ l. length (take_while (is_free_in (holder_of c.args.locks.now) c.args.range)
    (take (c.args.limit - c.loop-moved.moved) l)))
    (c.entries.ensures.all ∙ sym c.entries-in-loop-moved.ensures.all) in
    let stretch = is_stretch c.requires.sound (holder_of c.args.locks.now) c.args.limit c.args.range
    c.loop-moved.invariant.way c.args.first c.requires.first refl
    (c.args.limit - c.loop-moved.moved) c.count_free-free.result c.entries-in-loop-moved.result.now read counted in
    let all : c.args.limit ≡ c.loop-moved.moved + (c.args.limit - c.loop-moved.moved) =
    omega (arith, c.loop-moved-test.true) in
    ends c.requires.sound (holder_of c.args.locks.now) c.args.limit c.args.range c.loop-moved.invariant.way
    (c.args.limit - c.loop-moved.moved) all (take c.count_free-free.result c.entries-in-loop-moved.result.now) stretch
    c.bring_home-count.result c.bring_home-count.ensures.most
    (c.loop-moved.moved + c.bring_home-count.result) refl (omega (arith, c.if-count-lt-STRETCH.true))
    c.bring_home-count.ensures.greatest

pub returns-then-count-lt-STRETCH-clause-entries : goal.returns-then-count-lt-STRETCH-clause-entries
returns-then-count-lt-STRETCH-clause-entries g c =
    let read = c.entries-in-loop-moved.ensures.all ∙ c.read_anew.ensures in
    let counted : c.count_free-free.result ≡ length (take_while
    (is_free_in (holder_of c.args.locks.now) c.args.range)
    (take (c.args.limit - c.loop-moved.moved) c.entries-in-loop-moved.result.now)) =
    c.count_free-free.ensures ∙ ap (λ l. length (take_while (is_free_in (holder_of c.args.locks.now) c.args.range)
    (take (c.args.limit - c.loop-moved.moved) l)))
    (c.entries.ensures.all ∙ sym c.entries-in-loop-moved.ensures.all) in
    let stretch = is_stretch c.requires.sound (holder_of c.args.locks.now) c.args.limit c.args.range
    c.loop-moved.invariant.way c.args.first c.requires.first refl
    (c.args.limit - c.loop-moved.moved) c.count_free-free.result c.entries-in-loop-moved.result.now read counted in
    let all : c.args.limit ≡ c.loop-moved.moved + (c.args.limit - c.loop-moved.moved) =
    omega (arith, c.loop-moved-test.true) in
    ap (λ (p : Partitions). p.entries) c.note_left.ensures ∙
    (goes_on c.requires.sound (holder_of c.args.locks.now) c.args.limit c.args.range c.loop-moved.invariant.way
    (c.args.limit - c.loop-moved.moved) all (take c.count_free-free.result c.entries-in-loop-moved.result.now) stretch
    c.bring_home-count.result c.bring_home-count.ensures.most
    (c.loop-moved.moved + c.bring_home-count.result) c.bring_home-count.new.self.entries refl
    c.bring_home-count.ensures.entries).entries

pub returns-then-count-lt-STRETCH-clause-rooms : goal.returns-then-count-lt-STRETCH-clause-rooms
returns-then-count-lt-STRETCH-clause-rooms g c =
    let read = c.entries-in-loop-moved.ensures.all ∙ c.read_anew.ensures in
    let counted : c.count_free-free.result ≡ length (take_while
    (is_free_in (holder_of c.args.locks.now) c.args.range)
    (take (c.args.limit - c.loop-moved.moved) c.entries-in-loop-moved.result.now)) =
    c.count_free-free.ensures ∙ ap (λ l. length (take_while (is_free_in (holder_of c.args.locks.now) c.args.range)
    (take (c.args.limit - c.loop-moved.moved) l)))
    (c.entries.ensures.all ∙ sym c.entries-in-loop-moved.ensures.all) in
    let stretch = is_stretch c.requires.sound (holder_of c.args.locks.now) c.args.limit c.args.range
    c.loop-moved.invariant.way c.args.first c.requires.first refl
    (c.args.limit - c.loop-moved.moved) c.count_free-free.result c.entries-in-loop-moved.result.now read counted in
    let all : c.args.limit ≡ c.loop-moved.moved + (c.args.limit - c.loop-moved.moved) =
    omega (arith, c.loop-moved-test.true) in
    subst (λ (p : Partitions). KeepRoom c.args.parts.now.roomy p.roomy p.entries) (sym c.note_left.ensures)
    (keeps_room c.requires.sound (holder_of c.args.locks.now) c.args.limit c.args.range c.loop-moved.invariant.way
    (c.args.limit - c.loop-moved.moved) all (take c.count_free-free.result c.entries-in-loop-moved.result.now) stretch
    c.bring_home-count.result c.bring_home-count.ensures.most c.args.parts.now.roomy c.loop-moved.parts.roomy
    c.bring_home-count.new.self.roomy c.bring_home-count.new.self.entries c.bring_home-count.ensures.entries
    c.requires.room c.loop-moved.invariant.rooms c.bring_home-count.ensures.rooms)

pub loop-moved-preserved : goal.loop-moved-preserved
loop-moved-preserved g c =
    let read = c.entries-in-loop-moved.ensures.all ∙ c.read_anew.ensures in
    let counted : c.count_free-free.result ≡ length (take_while
    (is_free_in (holder_of c.args.locks.now) c.args.range)
    (take (c.args.limit - c.loop-moved.moved) c.entries-in-loop-moved.result.now)) =
    c.count_free-free.ensures ∙ ap (λ l. length (take_while (is_free_in (holder_of c.args.locks.now) c.args.range)
    (take (c.args.limit - c.loop-moved.moved) l)))
    (c.entries.ensures.all ∙ sym c.entries-in-loop-moved.ensures.all) in
    let stretch = is_stretch c.requires.sound (holder_of c.args.locks.now) c.args.limit c.args.range
    c.loop-moved.invariant.way c.args.first c.requires.first refl
    (c.args.limit - c.loop-moved.moved) c.count_free-free.result c.entries-in-loop-moved.result.now read counted in
    let all : c.args.limit ≡ c.loop-moved.moved + (c.args.limit - c.loop-moved.moved) =
    omega (arith, c.loop-moved-test.true) in
    record {
      way = goes_on c.requires.sound (holder_of c.args.locks.now) c.args.limit c.args.range c.loop-moved.invariant.way
          (c.args.limit - c.loop-moved.moved) all
          (take c.count_free-free.result c.entries-in-loop-moved.result.now) stretch
          c.bring_home-count.result c.bring_home-count.ensures.most
          (c.loop-moved.moved + c.bring_home-count.result) c.bring_home-count.new.self.entries refl
          c.bring_home-count.ensures.entries;
      read = λ none. absurd (omega (arith, none, c.if-count-lt-STRETCH.false));
      runs = c.bring_home-count.ensures.runs ∙ c.loop-moved.invariant.runs;
      rooms = keeps_room c.requires.sound (holder_of c.args.locks.now) c.args.limit c.args.range
          c.loop-moved.invariant.way
          (c.args.limit - c.loop-moved.moved) all (take c.count_free-free.result c.entries-in-loop-moved.result.now)
          stretch
          c.bring_home-count.result c.bring_home-count.ensures.most c.args.parts.now.roomy c.loop-moved.parts.roomy
          c.bring_home-count.new.self.roomy c.bring_home-count.new.self.entries c.bring_home-count.ensures.entries
          c.requires.room c.loop-moved.invariant.rooms c.bring_home-count.ensures.rooms;
    }

pub returns-clause-far : goal.returns-clause-far
returns-clause-far g c = is_full c.requires.sound (holder_of c.args.locks.now) c.args.limit c.args.range
    c.loop-moved.invariant.way (omega (arith, c.loop-moved-test.false))
