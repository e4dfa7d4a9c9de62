-- The turns of a seat, one call after another.
use Rattle.lot_processors.proofs.Common.{Answer, Continues, EachSeat, Extends, Faults, HasMade, HasMadeAll, HasStopped, HasWorked, IsFirstFault, IsLastWork, IsLegalIn, IsSameSeat, IsStale, IsWorkOf, List, Looks, Matches, None, Option, Parts, Program, Seat, Seen, Some, Stale, TurnFault, Turns, Work, ap, arith, inl, inr, length, refl, slice_index_or, starts_more, starts_self, starts_trans, subst, sym, turns_by, turns_for, ℕ, [], ◌+◌, ◌<◌, ◌∙◌, ◌∷◌, ◌≡◌}
use Rattle.lot_processors.specs.BatonWorkers.{AllMade, FirstStops, StopsTurn}
use Rattle.lot_processors.proofs.SeatWork.{no-work, stale-carries}
use Rattle.lot_processors.proofs.SeatsWork as seats

begins_trans : (z y x : Seen) → Extends z y → Extends y x → Extends z x
begins_trans z y x later before = (later.0 ∙ before.0, starts_trans z.history y.history x.history later.1 before.1)

continues_trans : (a b c : Seat) → Continues a b → Continues b c → Continues a c
continues_trans a b c first then =
    record { station = then.station ∙ first.station; actor = then.actor ∙ first.actor; begins = begins_trans c.seen b.seen a.seen then.begins first.begins }

-- a seat that made nothing
pub none_made : (a : Seat) → HasMade 0 a a
none_made a = record { continues = record { station = refl; actor = refl; begins = (refl, starts_self a.seen.history) }; turns = omega arith }

-- first n turns, and then m more
pub made_then : (n m : ℕ) (a b c : Seat) → HasMade n a b → HasMade m b c → HasMade (n + m) a c
made_then n m a b c first then =
    record { continues = continues_trans a b c first.continues then.continues; turns = omega (arith, first.turns, then.turns) }

-- a call that makes no turn
pub looked : (a b : Seat) → IsSameSeat a b → Looks a b → HasMade 0 a b
looked a b same looks =
    record {
      continues = record { station = same.station; actor = same.actor; begins = looks.begins };
      turns = ap (λ actor. turns_by actor b.seen.history) same.actor ∙ looks.turns ∙ omega arith;
    }

-- a call that makes one
pub turned : (a b : Seat) (given : Option Parts) (answer : Answer) → IsSameSeat a b → Turns a given answer b
    → HasMade 1 a b
turned a b given answer same turns =
    record {
      continues = record {
        station = same.station;
        actor = same.actor;
        begins = subst (λ (x : Seen). Extends x a.seen) (sym turns.ends)
            (turns.begins.0, starts_more turns.before.history (a.actor ∷ []) a.seen.history turns.begins.1);
      };
      turns = ap (λ actor. turns_by actor b.seen.history) same.actor ∙ turns.turns;
    }

-- what its actor has to do then
pub next_work : (a b : Seat) (given : Option Parts) (answer : Answer) → IsSameSeat a b → Turns a given answer b
    → IsWorkOf b.seen b.actor answer.next
next_work a b given answer same turns = subst (λ (y : Seen × ℕ). IsWorkOf y.0 y.1 answer.next)
    (λ i. (sym turns.ends i, sym same.actor i)) turns.answered.next

-- the work that a refused turn carries is the actor's
pub later-had : (x : Seen) (actor : ℕ) (given : Option Parts) (fault : TurnFault) (work : Option Work)
    → fault ≡ Stale work → Faults x actor given fault → IsWorkOf x actor work
later-had x actor given fault work is faults = (subst (λ f. Faults x actor given f) is faults).0

-- ---- what stops a turn

module _ (program : Program) where
  -- a work that doesn't fit the program at hand
  pub unfit : (s : Seat) (work : Option Work) (fault : TurnFault) → IsLegalIn s.seen → IsWorkOf s.seen s.actor work
      → IsStale program work fault → StopsTurn program s fault
  unfit s work fault legal had stale =
      record { work = work; earlier = s.seen; had = had; legal = legal; begins = (refl, starts_self s.seen.history); since = refl; stops = inl stale; last = stale-carries program work fault stale }

  -- a turn with the slice of the work
  pub refused : (a b : Seat) (work : Option Work) (given : Option Parts) (fault : TurnFault)
      → IsWorkOf a.seen a.actor work → Matches program work given → IsSameSeat a b → Looks a b
      → Faults b.seen a.actor given fault → IsLastWork work fault → StopsTurn program b fault
  refused a b work given fault had slice same looks stops last =
      record {
        work = work;
        earlier = a.seen;
        had = subst (λ actor. IsWorkOf a.seen actor work) (sym same.actor) had;
        legal = looks.legal;
        begins = looks.begins;
        since =
            subst (λ actor. turns_by actor b.seen.history ≡ turns_by actor a.seen.history) (sym same.actor) looks.turns;
        stops = inr (given, slice, subst (λ actor. Faults b.seen actor given fault) (sym same.actor) stops);
        last = last;
      }

  -- a turn of the console, which never has a work
  pub refused_console : (a b : Seat) (fault : TurnFault) → a.actor ≡ 0 → IsSameSeat a b → Looks a b
      → Faults b.seen a.actor None fault → StopsTurn program b fault
  refused_console a b fault console same looks stops =
      refused a b None None fault (λ some. absurd (omega (arith, some, console))) tt same looks stops
      (λ now is. no-work b.seen a.actor now console (subst (λ f. Faults b.seen a.actor None f) is stops).0)

  -- a seat whose turn was stopped before it made n
  pub stopped : (m n : ℕ) (fault : TurnFault) (a b : Seat) → m < n → HasMade m a b → StopsTurn program b fault
      → HasStopped program n fault a b
  stopped m n fault a b fewer made stops = record { made = m; fewer = fewer; turns = made; stops = stops }

  -- ---- a fault that is kept or taken out changes nothing of what was made

  to_kept : (n : ℕ) (a b : Seat) (y : Option TurnFault) → HasMade n a b → HasMade n a (record b { stopped = y })
  to_kept n a b y m = record { continues = record { station = m.continues.station; actor = m.continues.actor; begins = m.continues.begins }; turns = m.turns }

  from_freed : (n : ℕ) (a b : Seat) (x : Option TurnFault) → HasMade n (record a { stopped = x }) b → HasMade n a b
  from_freed n a b x m =
      record { continues = record { station = m.continues.station; actor = m.continues.actor; begins = m.continues.begins }; turns = m.turns }

  still_stops : (b : Seat) (y : Option TurnFault) (fault : TurnFault) → StopsTurn program b fault
      → StopsTurn program (record b { stopped = y }) fault
  still_stops b y fault f =
      record { work = f.work; earlier = f.earlier; had = f.had; legal = f.legal; begins = f.begins; since = f.since; stops = f.stops; last = f.last }

  pub stays : (n : ℕ) (fault : TurnFault) (a b : Seat) (y : Option TurnFault) → HasStopped program n fault a b
      → HasStopped program n fault a (record b { stopped = y })
  stays n fault a b y s =
      record { made = s.made; fewer = s.fewer; turns = to_kept s.made a b y s.turns; stops = still_stops b y fault s.stops }

  -- a worker takes out the fault that its seat keeps, and then makes all turns
  pub worked : (a freed b : Seat) → freed ≡ record a { stopped = None } → b.stopped ≡ freed.stopped
      → HasMade (turns_for program freed.actor) freed b → HasWorked program a b
  worked a freed b is kept made =
      let m = subst (λ (s : Seat). HasMade (turns_for program s.actor) s b) is made in
      inl (record { made = from_freed (turns_for program a.actor) a b None m; no_fault = kept ∙ ap (λ (s : Seat). s.stopped) is })

  -- or it is stopped, and the seat keeps the fault
  pub failed : (fault : TurnFault) (a freed b c : Seat) → freed ≡ record a { stopped = None }
      → c ≡ record b { stopped = Some fault } → HasStopped program (turns_for program freed.actor) fault freed b
      → HasWorked program a c
  failed fault a freed b c is keeps stops =
      let s = subst (λ (h : Seat). HasStopped program (turns_for program h.actor) fault h b) is stops in
      let own : HasStopped program (turns_for program a.actor) fault a b =
      record { made = s.made; fewer = s.fewer; turns = from_freed s.made a b None s.turns; stops = s.stops } in
      inr (
        fault,
        ap (λ (h : Seat). h.stopped) keeps,
        subst (λ (h : Seat). HasStopped program (turns_for program a.actor) fault a h) (sym keeps)
            (stays (turns_for program a.actor) fault a b (Some fault) own),
      )

  -- ---- all seats

  module _ (before mid after : List Seat) (each : EachSeat before mid (λ k s t. HasWorked program s t)) where
    -- if no seat keeps a fault, each has made all
    pub all_made : after ≡ mid → ((k : ℕ) (d : Seat) → k < length before → (slice_index_or mid k d).stopped ≡ None)
        → AllMade program before after
    all_made is none =
        seats.all_made Seat (λ s. s.stopped) (λ s. record s { stopped = None }) (HasMadeAll program)
        (λ f s t. HasStopped program (turns_for program s.actor) f s t)
        (λ s t m. m.no_fault) (λ s. refl)
        (λ f s t x. stays (turns_for program s.actor) f s t None x) before mid after each is none

    -- else the first that keeps one was stopped by it
    pub first_stops : (found : TurnFault) → IsFirstFault found mid after → length mid ≡ length before
        → FirstStops program found before after
    first_stops found first as_many =
        record {
          place = first.place;
          there = omega (arith, first.there, as_many);
          earlier = seats.earlier_made Seat (λ s. s.stopped) (λ s. record s { stopped = None }) (HasMadeAll program)
              (λ f s t. HasStopped program (turns_for program s.actor) f s t)
              (λ s t m. m.no_fault) (λ s. refl) (λ f s t x. stays (turns_for program s.actor) f s t None x) before mid
              after each found first.place as_many first.fault first.earlier first.others;
          stopped = seats.first_stopped Seat (λ s. s.stopped) (λ s. record s { stopped = None }) (HasMadeAll program)
              (λ f s t. HasStopped program (turns_for program s.actor) f s t)
              (λ s t m. m.no_fault) (λ s. refl) (λ f s t x. stays (turns_for program s.actor) f s t None x) before mid
              after each found first.place as_many first.fault first.earlier first.others;
          later = seats.later_worked Seat (λ s. s.stopped) (λ s. record s { stopped = None }) (HasMadeAll program)
              (λ f s t. HasStopped program (turns_for program s.actor) f s t)
              (λ s t m. m.no_fault) (λ s. refl) (λ f s t x. stays (turns_for program s.actor) f s t None x) before mid
              after each found first.place as_many first.fault first.earlier first.others;
        }
