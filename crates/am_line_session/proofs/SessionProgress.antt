-- A session so far, and at each line that it waits for.
use Rattle.std.proofs.Common.{◌≡◌, ◌⊎◌, ℕ, List, [], ◌∷◌, ◌++◌, append_assoc, append-nil, ap, sym, ◌∙◌, refl, take}
use Rattle.std.proofs.Common.{true, false, Bool, Option, Some, None, inl, inr, subst}
use Rattle.std.proofs.lemmas.List.{map-append}
use Rattle.am_law_serial.specs.Trace.{Trace}
use Rattle.am_line_source.specs.Lines.{lines_of, TookLine, TookPart}
use Rattle.am_line_source.specs.SourceReads.{Took, TookAhead, IsAtEnd}
use Rattle.am_line_sink.specs.SinkWrites.{Gave}
use Rattle.am_line_sink.proofs.Writes.{gave_then}
use Rattle.am_line_source.proofs.Streams.{took_then}
use Rattle.am_line_dialogue.specs.ParsedLine.{Line, parsed, is_quit}
use Rattle.am_line_dialogue.specs.Responses.{response_text, ends_itself}
use Rattle.am_line_dialogue.specs.Exchanges.{Exchange, asked, texts}
use Rattle.am_line_dialogue.specs.Backends.{BackendMeaning}
use Rattle.am_line_dialogue.specs.Conversation.{SessionPoint, AnswersLine, MergesAfter, AnswersTorn, Converses}
use Rattle.am_line_session.specs.ServedSessions.{IsEnded, AsksFor, GoOn, is_answered, goes_on}
use Rattle.am_line_session.specs.Waits.{Waits, MayWait}
use Rattle.am_line_session.specs.Stops.{Rests, Talked}
use Rattle.am_line_session.specs.declared.session.Stop.TheVariants.{Quit, EndedItself, EndedByAnother, EndOfInput}
use Rattle.am_line_session.specs.declared.session.Stop.TheVariants.{ReadFailed, WriteFailed}
use Rattle.am_line_session.proofs.Streams.{took_total, appends_none}

-- whole lines were read and answered, none of them QUIT
pub record Talks {S K B : Type 0} (comes : S → List ℕ → Type 0) (holds : K → Option (List ℕ)) (means : BackendMeaning B)
    (auto : ℕ) (s0 : S) (k0 : K) (b0 : SessionPoint B) (waiting : List ℕ) (s : S) (k : K) (b : SessionPoint B) : Type 0
  where
    pub read : List ℕ
    pub done : List Line
    pub exchanges : List Exchange
    pub events : Trace
    pub took : TookAhead comes [] s0 read waiting s
    pub gave : Gave holds k0 (texts exchanges) k
    pub asks : asked exchanges ≡ done
    pub cut : (more : List ℕ) → lines_of (read ++ more) ≡ done ++ lines_of more
    pub on : GoOn exchanges
    pub said : (more : List Exchange) (torn : Option Exchange) (later : Trace) (end : SessionPoint B) →
        Converses means auto b more torn later end → Converses means auto b0 (exchanges ++ more) torn (events ++ later)
        end

pub texts-append : (xs ys : List Exchange) → texts (xs ++ ys) ≡ texts xs ++ texts ys
texts-append [] ys = refl
texts-append (x ∷ xs) ys = ap (λ t. response_text x.1 ++ t) (texts-append xs ys) ∙
    sym (append_assoc (response_text x.1) (texts xs) (texts ys))

texts-one : (xs : List Exchange) (x : Exchange) → texts xs ++ response_text x.1 ≡ texts (xs ++ x ∷ [])
texts-one xs x = ap (λ t. texts xs ++ t) (sym (append-nil (response_text x.1))) ∙ sym (texts-append xs (x ∷ []))

go_on_more : (xs : List Exchange) (x : Exchange) → GoOn xs → goes_on x ≡ true → GoOn (xs ++ x ∷ [])
go_on_more [] x on q = (q, tt)
go_on_more (y ∷ xs) x on q = (on.0, go_on_more xs x on.1 q)

asked-one : (xs : List Exchange) (done : List Line) (x : Exchange) → asked xs ≡ done → asked (xs ++ x ∷ []) ≡ done ++
    x.0 ∷ []
asked-one xs done x e = map-append (λ (y : Exchange). y.0) xs (x ∷ []) ∙ ap (λ ls. ls ++ x.0 ∷ []) e

module _ {S K B : Type 0} (comes : S → List ℕ → Type 0) (holds : K → Option (List ℕ)) (means : BackendMeaning B)
    (auto : ℕ) where
  abbrev So : S → K → SessionPoint B → List ℕ → S → K → SessionPoint B → Type 0
  So s0 k0 b0 w s k b = Talks comes holds means auto s0 k0 b0 w s k b

  pub talk_start : (s : S) (k : K) (b : SessionPoint B) (w : List ℕ) → w ≡ [] → So s k b w s k b
  talk_start s k b w e = record {
    read = [];
    done = [];
    exchanges = [];
    events = [];
    took = rw e (λ rest h. h);
    gave = appends_none (holds k);
    asks = refl;
    cut = λ more. refl;
    on = tt;
    said = λ more torn later end h. h;
  }

  pub talk_more : (s0 s s' : S) (k0 k k' : K) (b0 b answered merging : SessionPoint B) (w w' : List ℕ) (e : Exchange)
      (own merged : Trace)
      → So s0 k0 b0 w s k b → TookLine comes w s e.0 true w' s' → goes_on e ≡ true →
      Gave holds k (response_text e.1) k' → AnswersLine means b e own answered
      → MergesAfter means auto answered merged merging → So s0 k0 b0 w' s' k' merging
  talk_more s0 s s' k0 k k' b0 b answered merging w w' e own merged t l q g a m = record {
    read = t.read ++ l.0;
    done = t.done ++ e.0 ∷ [];
    exchanges = t.exchanges ++ e ∷ [];
    events = t.events ++ (own ++ merged);
    took = took_then comes [] w w' s0 s s' t.read l.0 t.took l.1;
    gave = subst (λ (x : List ℕ). Gave holds k0 x k') (texts-one t.exchanges e)
        (gave_then holds k0 k k' (texts t.exchanges) (response_text e.1) t.gave g);
    asks = asked-one t.exchanges t.done e t.asks;
    cut = λ more. ap lines_of (append_assoc t.read l.0 more) ∙ t.cut (l.0 ++ more) ∙ ap (λ z. t.done ++ z) (l.2 more) ∙
        sym (append_assoc t.done (e.0 ∷ []) (lines_of more));
    on = go_on_more t.exchanges e t.on q;
    said = λ more torn later end h.
        let next = t.said (e ∷ more) torn (own ++ (merged ++ later)) end (
          own,
          merged,
          later,
          answered,
          merging,
          a,
          m,
          h,
          refl,
        ) in
        let with_exchange = subst (λ (x : List Exchange). Converses means auto b0 x torn
        (t.events ++ (own ++ (merged ++ later))) end) (sym (append_assoc t.exchanges (e ∷ []) more)) next in
        subst (λ (x : Trace). Converses means auto b0 ((t.exchanges ++ e ∷ []) ++ more) torn x end)
        (ap (λ x. t.events ++ x) (sym (append_assoc own merged later)) ∙
        sym (append_assoc t.events (own ++ merged) later)) with_exchange;
  }

  -- the lines that were read are those that were answered
  all_of : (s0 s : S) (k0 k : K) (b0 b : SessionPoint B) (w : List ℕ) (t : So s0 k0 b0 w s k b) →
      lines_of t.read ≡ t.done
  all_of s0 s k0 k b0 b w t = ap lines_of (sym (append-nil t.read)) ∙ t.cut [] ∙ append-nil t.done

  -- they were answered by the exchanges, and a torn answer may follow
  said_all : (s0 s : S) (k0 k : K) (b0 b : SessionPoint B) (w : List ℕ) (t : So s0 k0 b0 w s k b)
      (torn : Option Exchange) (its : Trace) (b' : SessionPoint B) → AnswersTorn means b torn its b' →
      Converses means auto b0 t.exchanges torn (t.events ++ its) b'
  said_all s0 s k0 k b0 b w t torn its b' a =
      subst (λ (z : List Exchange). Converses means auto b0 z torn (t.events ++ its) b')
      (append-nil t.exchanges) (t.said [] torn its b' a)

  asks_of : (s0 s : S) (k0 k : K) (b0 b : SessionPoint B) (w : List ℕ) (t : So s0 k0 b0 w s k b) →
      AsksFor t.read t.exchanges []
  asks_of s0 s k0 k b0 b w t = record {
    are = all_of s0 s k0 k b0 b w t ∙ sym t.asks ∙ sym (append-nil (asked t.exchanges));
    on = t.on;
  }

  -- and nothing comes of the session's wait for a further one but that its transaction may lapse
  rests : (s0 s : S) (k0 k : K) (b0 b b' : SessionPoint B) (w : List ℕ) (t : So s0 k0 b0 w s k b) (is_late : Bool)
      (idle : Trace) → Waits means is_late b idle b' →
      Rests means auto b0 t.exchanges None ((t.events ++ []) ++ idle) b'
  rests s0 s k0 k b0 b b' w t is_late idle waits = (
    b,
    t.events ++ [],
    idle,
    is_late,
    said_all s0 s k0 k b0 b w t None [] b (refl, refl),
    waits,
    refl,
  )

  -- nothing was waited for
  rests_there : (b0 b' : SessionPoint B) (exchanges : List Exchange) (torn : Option Exchange) (own : Trace) →
      Converses means auto b0 exchanges torn own b' → Rests means auto b0 exchanges torn (own ++ []) b'
  rests_there b0 b' exchanges torn own c = (b', own, [], false, c, (refl, refl), refl)

  -- no line is left
  pub talk_end : (s0 s s' : S) (k0 k : K) (b0 b b' : SessionPoint B) (w w' : List ℕ) → So s0 k0 b0 w s k b →
      MayWait means b b' → TookAhead comes w s [] w' s' → IsAtEnd comes w' s' →
      Talked comes holds means auto s0 k0 b0 s' k b' EndOfInput
  talk_end s0 s s' k0 k b0 b b' w w' t waits f e = record {
    read = t.read;
    exchanges = t.exchanges;
    events = (t.events ++ []) ++ waits.1;
    takes = took_total comes s0 s' (t.read ++ []) w' t.read (took_then comes [] w w' s0 s s' t.read [] t.took f)
        (ap (λ z. (t.read ++ []) ++ z) e.0 ∙ append-nil (t.read ++ []) ∙ append-nil t.read);
    done = e.1;
    lines = asks_of s0 s k0 k b0 b w t;
    gives = t.gave;
    does = rests s0 s k0 k b0 b b' w t waits.0 waits.1 waits.2;
  }

  -- the source failed within a line
  pub talk_failed : (s0 s s' : S) (k0 k : K) (b0 b b' : SessionPoint B) (w w' : List ℕ) → So s0 k0 b0 w s k b →
      MayWait means b b' → TookPart comes w s w' s' → w' ≡ [] →
      Talked comes holds means auto s0 k0 b0 s' k b' ReadFailed
  talk_failed s0 s s' k0 k b0 b b' w w' t waits l e = record {
    read = t.read;
    part = l.0;
    exchanges = t.exchanges;
    events = (t.events ++ []) ++ waits.1;
    takes = took_total comes s0 s' (t.read ++ l.0) w' (t.read ++ l.0) (took_then comes [] w w' s0 s s' t.read l.0 t.took
        l.2) (ap (λ z. (t.read ++ l.0) ++ z) e ∙ append-nil (t.read ++ l.0));
    ended = λ more. t.cut more ∙ ap (λ z. z ++ lines_of more) (sym (all_of s0 s k0 k b0 b w t));
    begins = l.1;
    lines = asks_of s0 s k0 k b0 b w t;
    gives = t.gave;
    does = rests s0 s k0 k b0 b b' w t waits.0 waits.1 waits.2;
  }

  -- a line that was taken is the only one of its bytes
  only_of : (s s' : S) (w w' : List ℕ) (line : Line) (ended : Bool) (l : TookLine comes w s line ended w' s') →
      lines_of l.0 ≡ line ∷ []
  only_of s s' w w' line true l = ap lines_of (sym (append-nil l.0)) ∙ l.2 []
  only_of s s' w w' line false l = l.2.0

  -- either a line's end was read, or all was
  whole_of : (s s' : S) (w w' : List ℕ) (line : Line) (ended : Bool) (l : TookLine comes w s line ended w' s')
      (read : List ℕ) (done : List Line) → ((more : List ℕ) → lines_of (read ++ more) ≡ done ++ lines_of more) →
      IsEnded (read ++ l.0) ⊎ ((w' ≡ []) × comes s' [])
  whole_of s s' w w' line true l read done cut = inl (λ more.
      let e : lines_of (read ++ l.0) ≡ done ++ line ∷ [] = cut l.0 ∙
      ap (λ z. done ++ z) (ap lines_of (sym (append-nil l.0)) ∙ l.2 []) in
      ap lines_of (append_assoc read l.0 more) ∙ cut (l.0 ++ more) ∙ ap (λ z. done ++ z) (l.2 more) ∙
      sym (append_assoc done (line ∷ []) (lines_of more)) ∙ ap (λ z. z ++ lines_of more) (sym e))
  whole_of s s' w w' line false l read done cut = inr (l.2.1.0, l.2.1.1)

  module _ (s0 s s' : S) (k0 k : K) (b0 b : SessionPoint B) (w w' : List ℕ) (line : Line) (ended : Bool)
      (t : So s0 k0 b0 w s k b) (l : TookLine comes w s line ended w' s') where
    -- the lines with one more
    lines_more : lines_of (t.read ++ l.0) ≡ t.done ++ (line ∷ [])
    lines_more = t.cut l.0 ∙ ap (λ z. t.done ++ z) (only_of s s' w w' line ended l)

    took_more : Took comes s0 ((t.read ++ l.0) ++ w') s'
    took_more = took_total comes s0 s' (t.read ++ l.0) w' ((t.read ++ l.0) ++ w')
        (took_then comes [] w w' s0 s s' t.read l.0 t.took l.1) refl

    -- and it is the last
    asks_last : AsksFor (t.read ++ l.0) t.exchanges (line ∷ [])
    asks_last = record { are = lines_more ∙ ap (λ z. z ++ line ∷ []) (sym t.asks); on = t.on }

    -- QUIT was read
    pub talk_quit : (b' : SessionPoint B) → MayWait means b b' → is_quit (parsed line) ≡ true →
        Talked comes holds means auto s0 k0 b0 s' k b' Quit
    talk_quit b' waits q = record {
      read = t.read ++ l.0;
      waiting = w';
      exchanges = t.exchanges;
      events = (t.events ++ []) ++ waits.1;
      takes = took_more;
      whole = whole_of s s' w w' line ended l t.read t.done t.cut;
      last = line;
      quit = q;
      lines = asks_last;
      gives = subst (λ (x : List ℕ). Gave holds k0 x k) (sym (append-nil (texts t.exchanges))) t.gave;
      parts = tt;
      does = rests s0 s k0 k b0 b b' w t waits.0 waits.1 waits.2;
    }

    -- another session ended this one before the line was answered
    pub talk_ended : (b' : SessionPoint B) → MayWait means b b' →
        Talked comes holds means auto s0 k0 b0 s' k b' EndedByAnother
    talk_ended b' waits = record {
      read = t.read;
      waiting = l.0 ++ w';
      exchanges = t.exchanges;
      events = (t.events ++ []) ++ waits.1;
      takes = subst (λ (x : List ℕ). Took comes s0 x s') (append_assoc t.read l.0 w') took_more;
      ended = λ more. t.cut more ∙ ap (λ z. z ++ lines_of more) (sym (all_of s0 s k0 k b0 b w t));
      lines = asks_of s0 s k0 k b0 b w t;
      gives = t.gave;
      does = rests s0 s k0 k b0 b b' w t waits.0 waits.1 waits.2;
    }

    -- one line more was read and answered
    asks_more : (e : Exchange) → e.0 ≡ line → goes_on e ≡ true → AsksFor (t.read ++ l.0) (t.exchanges ++ e ∷ []) []
    asks_more e same q = record {
      are = lines_more ∙ sym (append-nil (asked (t.exchanges ++ e ∷ [])) ∙ asked-one t.exchanges t.done e t.asks ∙
          ap (λ z. t.done ++ z ∷ []) same);
      on = go_on_more t.exchanges e t.on q;
    }

  -- a line was read, and not wholly answered
  pub talk_torn : (s0 s s' : S) (k0 k k' : K) (b0 b b' : SessionPoint B) (w w' : List ℕ) (e : Exchange) (ended : Bool)
      (its : Trace) (n : ℕ)
      → So s0 k0 b0 w s k b → TookLine comes w s e.0 ended w' s' → is_answered e ≡ true →
      Gave holds k (take n (response_text e.1)) k' → AnswersLine means b e its b'
      → Talked comes holds means auto s0 k0 b0 s' k' b' WriteFailed
  talk_torn s0 s s' k0 k k' b0 b b' w w' e ended its n t l q g a = record {
    read = t.read ++ l.0;
    waiting = w';
    exchanges = t.exchanges;
    last = e;
    events = (t.events ++ its) ++ [];
    count = n;
    takes = took_more s0 s s' k0 k b0 b w w' e.0 ended t l;
    whole = whole_of s s' w w' e.0 ended l t.read t.done t.cut;
    not_quit = q;
    lines = asks_last s0 s s' k0 k b0 b w w' e.0 ended t l;
    gives = gave_then holds k0 k k' (texts t.exchanges) (take n (response_text e.1)) t.gave g;
    does = rests_there b0 b' t.exchanges (Some e) (t.events ++ its) (said_all s0 s k0 k b0 b w t (Some e) its b' a);
  }

  -- one exchange more, and the merge after it
  rests_more : (s0 s : S) (k0 k : K) (b0 b answered merging : SessionPoint B) (w : List ℕ) (e : Exchange)
      (own merged : Trace) (t : So s0 k0 b0 w s k b) → AnswersLine means b e own answered →
      MergesAfter means auto answered merged merging → Rests means auto b0 (t.exchanges ++ e ∷ []) None
      ((t.events ++ (own ++ (merged ++ []))) ++ []) merging
  rests_more s0 s k0 k b0 b answered merging w e own merged t a m = rests_there b0 merging (t.exchanges ++ e ∷ []) None
      (t.events ++ (own ++ (merged ++ [])))
      (t.said (e ∷ []) None (own ++ (merged ++ [])) merging (
        own,
        merged,
        [],
        answered,
        merging,
        a,
        m,
        (refl, refl),
        refl,
      ))

  -- a line was read and answered by which the session ended itself
  pub talk_itself : (s0 s s' : S) (k0 k k' : K) (b0 b answered merging : SessionPoint B) (w w' : List ℕ)
      (e : Exchange) (ended : Bool) (own merged : Trace)
      → So s0 k0 b0 w s k b → TookLine comes w s e.0 ended w' s' → is_answered e ≡ true → ends_itself e.1 ≡ true →
      Gave holds k (response_text e.1) k' → AnswersLine means b e own answered
      → MergesAfter means auto answered merged merging → Talked comes holds means auto s0 k0 b0 s' k' merging
      EndedItself
  talk_itself s0 s s' k0 k k' b0 b answered merging w w' e ended own merged t l q itself g a m = record {
    read = t.read ++ l.0;
    waiting = w';
    exchanges = t.exchanges;
    last = e;
    events = (t.events ++ (own ++ (merged ++ []))) ++ [];
    takes = took_more s0 s s' k0 k b0 b w w' e.0 ended t l;
    whole = whole_of s s' w w' e.0 ended l t.read t.done t.cut;
    not_quit = q;
    itself = itself;
    lines = asks_last s0 s s' k0 k b0 b w w' e.0 ended t l;
    gives = subst (λ (x : List ℕ). Gave holds k0 x k') (texts-one t.exchanges e)
        (gave_then holds k0 k k' (texts t.exchanges) (response_text e.1) t.gave g);
    does = rests_more s0 s k0 k b0 b answered merging w e own merged t a m;
  }

  -- the last line, which no LF ended, was read and answered
  pub talk_last : (s0 s s' : S) (k0 k k' : K) (b0 b answered merging : SessionPoint B) (w w' : List ℕ) (e : Exchange)
      (own merged : Trace)
      → So s0 k0 b0 w s k b → TookLine comes w s e.0 false w' s' → goes_on e ≡ true →
      Gave holds k (response_text e.1) k' → AnswersLine means b e own answered
      → MergesAfter means auto answered merged merging → Talked comes holds means auto s0 k0 b0 s' k' merging EndOfInput
  talk_last s0 s s' k0 k k' b0 b answered merging w w' e own merged t l q g a m = record {
    read = t.read ++ l.0;
    exchanges = t.exchanges ++ e ∷ [];
    events = (t.events ++ (own ++ (merged ++ []))) ++ [];
    takes = took_total comes s0 s' (t.read ++ l.0) w' (t.read ++ l.0) (took_then comes [] w w' s0 s s' t.read l.0 t.took
        l.1) (ap (λ z. (t.read ++ l.0) ++ z) l.2.1.0 ∙ append-nil (t.read ++ l.0));
    done = l.2.1.1;
    lines = asks_more s0 s s' k0 k b0 b w w' e.0 false t l e refl q;
    gives = subst (λ (x : List ℕ). Gave holds k0 x k') (texts-one t.exchanges e)
        (gave_then holds k0 k k' (texts t.exchanges) (response_text e.1) t.gave g);
    does = rests_more s0 s k0 k b0 b answered merging w e own merged t a m;
  }
