-- What a line asks for is written with visible bytes alone.
use Rattle.std.proofs.Common.{◌≡◌, ℕ, Bool, true, false, cond, List, [], ◌∷◌, length, Option, Some, None, option_map}
use Rattle.std.proofs.Common.{Ok, refl, sym, ap, subst}
use Rattle.std.specs.Prelude.{All, nat_le}
use Rattle.std.specs.List.{AllByRecursion}
use Rattle.std.specs.Option.{option_zip}
use Rattle.am_record.specs.OrderedKey.{OrderedKey}
use Rattle.am_record.specs.Records.{Records}
use Rattle.am_line_text.specs.Values.{IsVisible, value_for}
use Rattle.am_line_text.specs.Keys.{key_for}
use Rattle.am_line_wire.specs.Shapes.{bare, one_key, one_record, one_number, range_and_number, mode_and_range}
use Rattle.am_line_wire.specs.Shapes.{some_records, which_sessions}
use Rattle.am_line_wire.specs.Grammar.{verb_shape, request_with, Reads}
use Rattle.am_line_wire.specs.Arguments.{Arguments, AreProper, records_for, values_for}
use Rattle.am_line_text.specs.Records.{RecordText, IsRecordText, record_for}
use Rattle.am_line_wire.specs.Replies.{IsVisibleRow}
use Rattle.am_line_wire.specs.Visible.{AsksVisible}
use Rattle.am_line_text.specs.declared.verb.Verb.{Verb}
use Rattle.am_line_text.specs.declared.verb.Verb.TheVariants as verb
use Rattle.am_line_wire.specs.declared.request.Request.{Request}
use Rattle.am_line_text.proofs.Keys.{key_for-visible}
use Rattle.am_line_wire.proofs.Loads.{zipped}

zip_some : (a : Option OrderedKey) (b : Option (List ℕ)) (x : OrderedKey × List ℕ) → option_zip a b ≡ Some x →
    (a ≡ Some x.0) × (b ≡ Some x.1)
zip_some None None x e = cc
zip_some None (Some q) x e = cc
zip_some (Some p) None x e = cc
zip_some (Some p) (Some q) x e =
    let same : (p, q) ≡ x = cc in
    (ap (λ (y : OrderedKey × List ℕ). Some y.0) same, ap (λ (y : OrderedKey × List ℕ). Some y.1) same)

in_range : (b : Bool) (bytes v : List ℕ) → cond b (Some bytes) None ≡ Some v → bytes ≡ v
in_range true bytes v e = cc
in_range false bytes v e = cc

record_visible : (r : RecordText) (x : OrderedKey × List ℕ) → IsRecordText r → record_for r ≡ Some x → IsVisibleRow x
record_visible r x h e =
    let both = zip_some (key_for r.0) (value_for r.1) x e in (
      key_for-visible r.0 x.0 h.0 both.0,
      subst (λ (bytes : List ℕ). All IsVisible bytes)
          (in_range (nat_le (length r.1) 64) r.1 x.1 both.1) h.1.1,
    )

records_visible : (rs : List RecordText) (all : Records) → AllByRecursion IsRecordText rs → records_for rs ≡ Some all →
    AllByRecursion IsVisibleRow all
records_visible [] all h e =
    let none : [] ≡ all = cc in
    subst (AllByRecursion IsVisibleRow) none tt
records_visible (r ∷ rs) all h e =
    let z = zipped (record_for r) (records_for rs) all e in
    subst (AllByRecursion IsVisibleRow) (sym z.4) (record_visible r z.0 h.0 z.2, records_visible rs z.1 h.1 z.3)

told : {A : Type 0} (f : A → Request) (o : Option A) (request : Request) → ((x : A) → o ≡ Some x → AsksVisible (f x)) →
    option_map f o ≡ Some request → AsksVisible request
told f None request h e = cc
told f (Some x) request h e =
    let same : f x ≡ request = cc in
    subst AsksVisible same (h x refl)

visible_with : (v : Verb) (a : Arguments (verb_shape v)) (request : Request) → AreProper (verb_shape v) a →
    option_map (request_with v) (values_for (verb_shape v) a) ≡ Some request → AsksVisible request
visible_with verb.Get a r h e = told (request_with verb.Get) (values_for one_key a) r (λ x f. tt) e
visible_with verb.Scan a r h e = told (request_with verb.Scan) (values_for range_and_number a) r (λ x f. tt) e
visible_with verb.ScanBack a r h e = told (request_with verb.ScanBack) (values_for range_and_number a) r (λ x f. tt) e
visible_with verb.Insert a r h e = told (request_with verb.Insert) (values_for one_record a) r
    (λ x f. record_visible a x h f) e
visible_with verb.Replace a r h e = told (request_with verb.Replace) (values_for one_record a) r
    (λ x f. record_visible a x h f) e
visible_with verb.Set a r h e = told (request_with verb.Set) (values_for one_record a) r
    (λ x f. record_visible a x h f) e
visible_with verb.DeleteRange a r h e = told (request_with verb.DeleteRange) (values_for range_and_number a) r
    (λ x f. tt) e
visible_with verb.Delete a r h e = told (request_with verb.Delete) (values_for one_key a) r (λ x f. tt) e
visible_with verb.Load a r h e = told (request_with verb.Load) (values_for some_records a) r
    (λ x f. records_visible a x h.1 f) e
visible_with verb.Put a r h e = told (request_with verb.Put) (values_for some_records a) r
    (λ x f. records_visible a x h.1 f) e
visible_with verb.Stage a r h e = told (request_with verb.Stage) (values_for some_records a) r
    (λ x f. records_visible a x h.1 f) e
visible_with verb.Lock a r h e = told (request_with verb.Lock) (values_for mode_and_range a) r (λ x f. tt) e
visible_with verb.Merge a r h e = told (request_with verb.Merge) (values_for one_number a) r (λ x f. tt) e
visible_with verb.Hold a r h e = told (request_with verb.Hold) (values_for one_number a) r (λ x f. tt) e
visible_with verb.End a r h e = told (request_with verb.End) (values_for one_number a) r (λ x f. tt) e
visible_with verb.Who a r h e = told (request_with verb.Who) (values_for which_sessions a) r (λ x f. tt) e
visible_with verb.Clean a r h e = told (request_with verb.Clean) (values_for range_and_number a) r (λ x f. tt) e
visible_with v a r h e = told (request_with v) (values_for bare a) r (λ x f. tt) e

-- what is read of a line is visible
pub asks_visible : (line : List ℕ) (request : Request) → Reads line (Ok request) → AsksVisible request
asks_visible line request h = visible_with h.0.verb h.0.arguments request h.1 h.3
