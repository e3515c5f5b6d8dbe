-- The verbs of lines: the words that begin them.
use Rattle.std.specs.Prelude.{ℕ, List, [], ◌∷◌, codes, Option, bytes_eq, find}
use Rattle.am_line_text.specs.declared.verb.Verb.{Verb}
use Rattle.am_line_text.specs.declared.verb.Verb.TheVariants.{Begin, Get, Scan, ScanBack, Insert, Replace, Set}
use Rattle.am_line_text.specs.declared.verb.Verb.TheVariants.{Delete, DeleteRange, Load, Put, Stage, Lock}
use Rattle.am_line_text.specs.declared.verb.Verb.TheVariants.{Mark, Back, Commit, Abort, Merge, Clean, Seen, Hold}
use Rattle.am_line_text.specs.declared.verb.Verb.TheVariants.{Who, End, Quit}

abbrev pub word_of : Verb → List ℕ
word_of Begin = codes "BEGIN"
word_of Get = codes "GET"
word_of Scan = codes "SCAN"
word_of ScanBack = codes "RSCAN"
word_of Insert = codes "INS"
word_of Replace = codes "REP"
word_of Set = codes "SET"
word_of Delete = codes "DEL"
word_of DeleteRange = codes "DELR"
word_of Load = codes "LOAD"
word_of Put = codes "PUT"
word_of Stage = codes "STAGE"
word_of Lock = codes "LOCK"
word_of Mark = codes "MARK"
word_of Back = codes "BACK"
word_of Commit = codes "COMMIT"
word_of Abort = codes "ABORT"
word_of Merge = codes "MERGE"
word_of Clean = codes "CLEAN"
word_of Seen = codes "SEEN"
word_of Hold = codes "HOLD"
word_of Who = codes "WHO"
word_of End = codes "END"
word_of Quit = codes "QUIT"

abbrev pub verbs : List Verb
verbs = Begin ∷ Get ∷ Scan ∷ ScanBack ∷ Insert ∷ Replace ∷ Set ∷ Delete ∷ DeleteRange ∷ Load ∷ Put ∷ Stage ∷ Lock ∷
    Mark ∷ Back ∷ Commit ∷ Abort ∷ Merge ∷ Clean ∷ Seen ∷ Hold ∷ Who ∷ End ∷ Quit ∷ []

-- the one of the verbs that has the word
abbrev pub verb_among : List Verb → List ℕ → Option Verb
verb_among among word = find (λ verb. bytes_eq (word_of verb) word) among

-- the verb of a word
unfoldable pub verb_for : List ℕ → Option Verb
verb_for word = verb_among verbs word
