-- A session with the store as its backend is a session alone, whose events are a sound trace.
use Rattle.std.proofs.Common.{◌≡◌, ℕ, List, [], ◌++◌, append_assoc, append-nil, Option, None, All, sym, ap, ◌∙◌}
use Rattle.std.proofs.Common.{refl, subst}
use Rattle.am_law_serial.specs.Legal.{IsLegal}
use Rattle.am_law_serial.specs.Trace.{Trace}
use Rattle.am_law_serial.specs.Sound.{IsSound}
use Rattle.am_law_effect.specs.Store.{IsRunOf, opened as opened_store}
use Rattle.am_law_sound.specs.StoreState.{StoreState, empty_state}
use Rattle.am_law_sound.specs.Right.{IsSoundStore}
use Rattle.am_law_sound.specs.StateOf.{IsStateOf}
use Rattle.am_store.specs.StoreSteps.{IsSoundAt, Extends}
use Rattle.am_store.proofs.StoreSteps.{Sounds, goes_nowhere, goes_further}
use Rattle.am_line_wire.specs.Replies.{IsOneLine}
use Rattle.am_line_dialogue.specs.Responses.{response_text}
use Rattle.am_line_dialogue.specs.Exchanges.{Exchange, with_torn}
use Rattle.am_line_dialogue.specs.Conversation.{AnswersAll}
use Rattle.am_line_dialogue.specs.Alone.{Alone, AnswersAlone, alone_meaning}
use Rattle.am_line_dialogue.specs.Say.{Says}
use Rattle.am_line_dialogue.proofs.Conversations.{TakesSteps, HoldsOfSteps, conversation_taken, conversation_goes}
use Rattle.am_line_alone.specs.Solo.{Solo, solo_meaning, EachRefusesForNeed, IsSpoken}
use Rattle.am_line_alone.proofs.Solos.{commits_are}

-- what a session alone knows of the store
abbrev alone_of : Solo → Alone
alone_of s = record { active = s.active; commits = s.kept.commits }

is_alone : TakesSteps solo_meaning alone_meaning alone_of
is_alone = record {
  active = λ s. refl;
  steps = λ old new step reply g. λ i. record {
    active = g.active i;
    commits = (ap (λ (p : StoreState). p.commits) g.kept ∙ commits_are old.kept step reply g.says) i;
  };
  shows = λ old new session commits h. (h.0, h.1, ap alone_of h.2);
  holds = λ s millis answer h. h;
  tells = λ s which told h. h;
  ends = λ s session answer h. h;
  lapses = λ h. h;
}

-- ---- where the store stands

abbrev StoreGoes : Solo → Trace → Solo → Type 0
StoreGoes old events new = Extends old.kept events new.kept

store_goes : Sounds → HoldsOfSteps solo_meaning StoreGoes
store_goes sound = record {
  stays = λ s. goes_nowhere s.kept sound;
  steps = λ old new step reply g. g.on;
  shows = λ old new session commits h. subst (StoreGoes old []) (sym h.2) (goes_nowhere old.kept sound);
  joins = λ a b c events more f g. goes_further a.kept b.kept c.kept events more f g;
}

-- ---- memory is refused only to steps that may want it

-- what goes on rightly from the second state goes on rightly after these events from the first
abbrev NeedGoes : Solo → Trace → Solo → Type 0
NeedGoes old events new = (tail : Trace) → EachRefusesForNeed new.kept tail →
    EachRefusesForNeed old.kept (events ++ tail)

need_goes : HoldsOfSteps solo_meaning NeedGoes
need_goes = record {
  stays = λ s tail h. h;
  steps = λ old new step reply g tail h. (
    g.memory,
    subst (λ (p : StoreState). EachRefusesForNeed p tail) g.kept h,
  );
  shows = λ old new session commits seen tail h. subst (λ (s : Solo). EachRefusesForNeed s.kept tail) seen.2 h;
  joins = λ a b c events more f g tail h. subst (EachRefusesForNeed a.kept) (sym (append_assoc events more tail))
      (f (more ++ tail) (g tail h));
}

-- ---- the whole

pub spoken : (auto : ℕ) (s0 b : Solo) → s0 ≡ record { kept = empty_state 65535; active = None } →
    IsStateOf [] (empty_state 65535) → Sounds → ((trace : Trace) → IsSound 65535 trace → IsLegal 65535 trace) →
    ((exchanges : List Exchange) (torn : Option Exchange) (trace : Trace) → IsSound 65535 trace →
    AnswersAlone auto exchanges torn trace → Says (with_torn exchanges torn)) →
    ((exchanges : List Exchange) (torn : Option Exchange) (trace : Trace) → IsRunOf 65535 opened_store trace →
    AnswersAlone auto exchanges torn trace →
    All (λ (e : Exchange). IsOneLine (response_text e.1)) (with_torn exchanges torn)) →
    (exchanges : List Exchange) (torn : Option Exchange) (events : Trace) →
    AnswersAll solo_meaning auto s0 exchanges torn events b → IsSpoken auto exchanges torn events
spoken auto s0 b fresh opened sounds legal_of say lines exchanges torn events answers =
    let first : Solo = record { kept = empty_state 65535; active = None } in
    let a : AnswersAll solo_meaning auto first exchanges torn events b =
    subst (λ (s : Solo). AnswersAll solo_meaning auto s exchanges torn events b) fresh answers in
    let taken = conversation_taken solo_meaning alone_meaning alone_of is_alone auto first b exchanges torn events a in
    let alone : AnswersAlone auto exchanges torn events = (alone_of b, taken) in
    let goes : StoreGoes first events b =
    conversation_goes solo_meaning StoreGoes (store_goes sounds) auto first b exchanges torn events a in
    let at : IsSoundAt events b.kept = goes.on [] opened in
    let sound : IsSoundStore 65535 events = subst (λ n. IsSoundStore n events) goes.most at.sound in
    record {
      answers = alone;
      sound = sound;
      legal = legal_of events sound.sound;
      says = say exchanges torn events sound.sound alone;
      memory = subst (EachRefusesForNeed (empty_state 65535)) (append-nil events)
          (conversation_goes solo_meaning NeedGoes need_goes auto first b exchanges torn events a [] tt);
      lines = lines exchanges torn events (subst (λ n. IsRunOf n opened_store events) goes.most at.at.follows) alone;
    }
