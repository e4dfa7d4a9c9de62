-- The turns of a station's seat, one call after another.
use Rattle.lot_processors.proofs.Common.{All, All-append, All-push, AllMade, Answer, Answers, AtSome, EachSeat, Faults, FirstStops, Goes, Holder, IsLastWork, IsReply, IsStale, IsWorkOf, List, Matches, None, Option, Parts, Program, Seen, Setting, Some, Stale, StopsTurn, TurnFault, Work, ap, ap₂, arith, inl, inr, length, length-append, quanta_in, refl, slice_index_or, subst, sum_by-append, sum_by_push, sym, ticks_in, turns_for, with_turn, ℕ, [], ◌++◌, ◌+◌, ◌<◌, ◌∙◌, ◌∷◌, ◌≡◌}
use Rattle.lot_processors.specs.Workers.{HasMade, HasMadeAll, HasStopped, HasWorked, IsFirstFault}
use Rattle.lot_processors.proofs.SeatsWork as seats

-- a fault carries one work
stale-same : (work now : Option Work) (fault : TurnFault) → fault ≡ Stale work → fault ≡ Stale now → now ≡ work
stale-same work now fault one other = cc

-- a work that doesn't fit is carried by the fault
pub stale-carries : (program : Program) (work : Option Work) (fault : TurnFault) → IsStale program work fault
    → IsLastWork work fault
stale-carries program None fault stale now is = absurd stale
stale-carries program (Some work) fault stale now is = stale-same (Some work) now fault stale.0 is

-- the console has no work
pub no-work : (x : Seen) (actor : ℕ) (work : Option Work) → actor ≡ 0 → IsWorkOf x actor work → work ≡ None
no-work x actor None console is = refl
no-work x actor (Some work) console is = absurd (omega (arith, console, is.0))

pub console-last : (setting : Setting) (actor : ℕ) (fault : TurnFault) → actor ≡ 0
    → AtSome setting (λ x. Faults x actor None fault) → IsLastWork None fault
console-last setting actor fault console stops now is =
    let seen : Seen = record { setting = setting; history = stops.history } in
    no-work seen actor now console (subst (λ f. Faults seen actor None f) is stops.is_so).0

module _ (setting : Setting) where
  -- a seat that made nothing
  pub none_made : (a : Holder) → HasMade setting 0 a a
  none_made a = record { actor = refl; replies = []; each = refl; answered = λ k d low. absurd (omega (arith, low)); turns = omega arith; quanta = omega arith; ticks = omega arith }

  -- one turn more
  pub turned : (n : ℕ) (a b c : Holder) (given : Option Parts) (answer : Answer) → HasMade setting n a b
      → c ≡ with_turn b answer.reply → AtSome setting (λ x. Goes x b.actor given × Answers x b.actor answer)
      → HasMade setting (n + 1) a c
  turned n a b c given answer made is turn =
      let reply : IsReply setting a.actor answer.reply =
      record { given = given; answer = answer; is = refl; turn = subst (λ actor. AtSome setting (λ x. Goes x actor given × Answers x actor answer)) made.actor turn } in
      record {
        actor = ap (λ (h : Holder). h.actor) is ∙ made.actor;
        replies = made.replies ++ answer.reply ∷ [];
        each = length-append made.replies (answer.reply ∷ []) ∙ ap (λ m. m + 1) made.each;
        answered = All-push (IsReply setting a.actor) made.replies answer.reply made.answered reply;
        turns = omega (arith, ap (λ (h : Holder). h.turns) is, made.turns);
        quanta = omega
            (arith, ap (λ (h : Holder). h.quanta) is, made.quanta, sum_by_push quanta_in made.replies answer.reply);
        ticks =
            omega (arith, ap (λ (h : Holder). h.ticks) is, made.ticks, sum_by_push ticks_in made.replies answer.reply);
      }

  -- first n turns, and then m more
  pub made-then : (n m : ℕ) (a b c : Holder) → HasMade setting n a b → HasMade setting m b c
      → HasMade setting (n + m) a c
  made-then n m a b c first then = record {
    actor = then.actor ∙ first.actor;
    replies = first.replies ++ then.replies;
    each = length-append first.replies then.replies ∙ ap₂ (λ (i j : ℕ). i + j) first.each then.each;
    answered = All-append (IsReply setting a.actor) first.replies then.replies first.answered
        (subst (λ actor. All (IsReply setting actor) then.replies) first.actor then.answered);
    turns = omega (arith, first.turns, then.turns);
    quanta = omega (arith, first.quanta, then.quanta, sum_by-append quanta_in first.replies then.replies);
    ticks = omega (arith, first.ticks, then.ticks, sum_by-append ticks_in first.replies then.replies);
  }

  -- the work that a refused turn carries is the actor's
  pub later-had : (actor : ℕ) (given : Option Parts) (fault : TurnFault) (work : Option Work) → fault ≡ Stale work
      → AtSome setting (λ x. Faults x actor given fault) → AtSome setting (λ x. IsWorkOf x actor work)
  later-had actor given fault work is stops =
      record { history = stops.history; legal = stops.legal; is_so = (subst (λ f. Faults (record { setting = setting; history = stops.history }) actor given f) is stops.is_so).0 }

  module _ (program : Program) (actor : ℕ) (fault : TurnFault) where
    -- a work that doesn't fit the program at hand
    pub unfit : (work : Option Work) → AtSome setting (λ x. IsWorkOf x actor work) → IsStale program work fault
        → StopsTurn setting program actor fault
    unfit work had stale =
        record { work = work; had = had; stops = record { history = had.history; legal = had.legal; is_so = inl stale }; last = stale-carries program work fault stale }

    -- a turn with the slice of the work
    pub refused : (work : Option Work) (given : Option Parts) → AtSome setting (λ x. IsWorkOf x actor work)
        → Matches program work given → AtSome setting (λ x. Faults x actor given fault) → IsLastWork work fault
        → StopsTurn setting program actor fault
    refused work given had slice stops last =
        record { work = work; had = had; stops = record { history = stops.history; legal = stops.legal; is_so = inr (given, slice, stops.is_so) }; last = last }

    -- a turn of the console, which never has a work
    pub refused_console : actor ≡ 0 → AtSome setting (λ x. Faults x actor None fault)
        → StopsTurn setting program actor fault
    refused_console console stops =
        refused None None
        (record { history = stops.history; legal = stops.legal; is_so = λ some. absurd (omega (arith, some, console)) })
        tt stops (console-last setting actor fault console stops)

  -- a seat whose turn was stopped before it made n
  pub stopped : (program : Program) (m n : ℕ) (fault : TurnFault) (a b c : Holder) → m < n → HasMade setting m a b
      → c ≡ b → StopsTurn setting program b.actor fault → HasStopped setting program n fault a c
  stopped program m n fault a b c fewer made same stops =
      record { made = m; fewer = fewer; turns = subst (λ (h : Holder). HasMade setting m a h) (sym same) made; stops = subst (λ actor. StopsTurn setting program actor fault) made.actor stops }

  -- ---- a fault that is kept or taken out changes nothing of what was made

  from_freed : (n : ℕ) (a b : Holder) (x : Option TurnFault) → HasMade setting n (record a { stopped = x }) b
      → HasMade setting n a b
  from_freed n a b x made =
      record { actor = made.actor; replies = made.replies; each = made.each; answered = made.answered; turns = made.turns; quanta = made.quanta; ticks = made.ticks }

  to_kept : (n : ℕ) (a b : Holder) (y : Option TurnFault) → HasMade setting n a b
      → HasMade setting n a (record b { stopped = y })
  to_kept n a b y made =
      record { actor = made.actor; replies = made.replies; each = made.each; answered = made.answered; turns = made.turns; quanta = made.quanta; ticks = made.ticks }

  module _ (program : Program) where
    pub stays : (n : ℕ) (fault : TurnFault) (a b : Holder) (y : Option TurnFault)
        → HasStopped setting program n fault a b → HasStopped setting program n fault a (record b { stopped = y })
    stays n fault a b y s =
        record { made = s.made; fewer = s.fewer; turns = to_kept s.made a b y s.turns; stops = s.stops }

    -- a worker takes out the fault that its seat keeps, and then makes all turns
    pub worked : (a freed b : Holder) → freed ≡ record a { stopped = None } → b.stopped ≡ freed.stopped
        → HasMade setting (turns_for program freed.actor) freed b → HasWorked setting program a b
    worked a freed b is kept made =
        let m = subst (λ (s : Holder). HasMade setting (turns_for program s.actor) s b) is made in
        inl (record { made = from_freed (turns_for program a.actor) a b None m; no_fault = kept ∙ ap (λ (s : Holder). s.stopped) is })

    -- or it is stopped, and the seat keeps the fault
    pub failed : (fault : TurnFault) (a freed b c : Holder) → freed ≡ record a { stopped = None }
        → c ≡ record b { stopped = Some fault }
        → HasStopped setting program (turns_for program freed.actor) fault freed b → HasWorked setting program a c
    failed fault a freed b c is keeps stops =
        let s = subst (λ (h : Holder). HasStopped setting program (turns_for program h.actor) fault h b) is stops in
        let own : HasStopped setting program (turns_for program a.actor) fault a b =
        record { made = s.made; fewer = s.fewer; turns = from_freed s.made a b None s.turns; stops = s.stops } in
        inr (
          fault,
          ap (λ (h : Holder). h.stopped) keeps,
          subst (λ (h : Holder). HasStopped setting program (turns_for program a.actor) fault a h) (sym keeps)
              (stays (turns_for program a.actor) fault a b (Some fault) own),
        )

    -- ---- all seats

    module _ (before mid after : List Holder)
        (each : EachSeat before mid (λ k s t. HasWorked setting program s t)) where
      -- if no seat keeps a fault, each has made all
      pub all_made : after ≡ mid → ((k : ℕ) (d : Holder) → k < length before → (slice_index_or mid k d).stopped ≡ None)
          → AllMade setting program before after
      all_made is none =
          seats.all_made Holder (λ s. s.stopped) (λ s. record s { stopped = None }) (HasMadeAll setting program)
          (λ f s t. HasStopped setting program (turns_for program s.actor) f s t)
          (λ s t m. m.no_fault) (λ s. refl)
          (λ f s t x. stays (turns_for program s.actor) f s t None x) before mid after each is none

      -- else the first that keeps one was stopped by it
      pub first_stops : (found : TurnFault) → IsFirstFault found mid after → length mid ≡ length before
          → FirstStops setting program found before after
      first_stops found first as_many =
          record {
            place = first.place;
            there = omega (arith, first.there, as_many);
            earlier = seats.earlier_made Holder (λ s. s.stopped) (λ s. record s { stopped = None })
                (HasMadeAll setting program) (λ f s t. HasStopped setting program (turns_for program s.actor) f s t)
                (λ s t m. m.no_fault) (λ s. refl) (λ f s t x. stays (turns_for program s.actor) f s t None x) before mid
                after each found first.place as_many first.fault first.earlier first.others;
            stopped = seats.first_stopped Holder (λ s. s.stopped) (λ s. record s { stopped = None })
                (HasMadeAll setting program) (λ f s t. HasStopped setting program (turns_for program s.actor) f s t)
                (λ s t m. m.no_fault) (λ s. refl) (λ f s t x. stays (turns_for program s.actor) f s t None x) before mid
                after each found first.place as_many first.fault first.earlier first.others;
            later = seats.later_worked Holder (λ s. s.stopped) (λ s. record s { stopped = None })
                (HasMadeAll setting program) (λ f s t. HasStopped setting program (turns_for program s.actor) f s t)
                (λ s t m. m.no_fault) (λ s. refl) (λ f s t x. stays (turns_for program s.actor) f s t None x) before mid
                after each found first.place as_many first.fault first.earlier first.others;
          }
