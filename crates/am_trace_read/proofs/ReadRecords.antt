-- Records, read one after another.
use Rattle.std.proofs.Common.{◌≡◌, ℕ, List, [], ◌∷◌, ◌++◌, Option, Some, None, refl, sym, ap, ◌∙◌, append_assoc}
use Rattle.std.proofs.Common.{append-nil, option_map}
use Rattle.std.specs.Option.{option_zip}
use Rattle.am_record.specs.OrderedKey.{OrderedKey}
use Rattle.am_record.specs.Records.{Records}
use Rattle.am_trace_text.specs.FieldReadings.{record_in, records_of_fields, record_first}
use Rattle.am_trace_text.specs.declared.version.Version.{Version}

-- these records were read, and these fields are left
abbrev pub AreRead : Version → List (List ℕ) → Records → List (List ℕ) → Type 0
AreRead v fields read rest = records_of_fields v fields ≡ option_map (λ (more : Records). read ++ more)
    (records_of_fields v rest)

front : (read : Records) (r : OrderedKey × List ℕ) (o : Option Records) →
    option_map (λ (more : Records). read ++ more) (option_map record_first (option_zip (Some r) o)) ≡ option_map
    (λ (more : Records). (read ++ r ∷ []) ++ more) o
front read r None = refl
front read r (Some more) = ap (λ x. Some x) (sym (append_assoc read (r ∷ []) more))

pub record_more : (v : Version) (fields : List (List ℕ)) (read : Records) (f : List ℕ) (rest : List (List ℕ))
    (r : OrderedKey × List ℕ) → AreRead v fields read (f ∷ rest) → record_in v f ≡ Some r →
    AreRead v fields (read ++ r ∷ []) rest
record_more v fields read f rest r h e =
    h ∙ ap (λ o. option_map (λ (more : Records). read ++ more)
    (option_map record_first (option_zip o (records_of_fields v rest)))) e ∙ front read r (records_of_fields v rest)

nothing : (o : Option Records) → option_map record_first (option_zip None o) ≡ None
nothing None = refl
nothing (Some x) = refl

pub record_bad : (v : Version) (fields : List (List ℕ)) (read : Records) (f : List ℕ) (rest : List (List ℕ)) →
    AreRead v fields read (f ∷ rest) → record_in v f ≡ None → records_of_fields v fields ≡ None
record_bad v fields read f rest h e =
    h ∙ ap (λ o. option_map (λ (more : Records). read ++ more)
    (option_map record_first (option_zip o (records_of_fields v rest)))) e ∙
    ap (option_map (λ (more : Records). read ++ more)) (nothing (records_of_fields v rest))

pub records_all : (v : Version) (fields : List (List ℕ)) (read : Records) → AreRead v fields read [] →
    records_of_fields v fields ≡ Some read
records_all v fields read h = h ∙ ap (λ x. Some x) (append-nil read)
