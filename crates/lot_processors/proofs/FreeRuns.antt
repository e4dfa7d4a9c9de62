-- The history of a free run, by its seats.
use Rattle.lot_processors.proofs.Common.{AllMade, AreDealt, AtSome, CountsAgree, Faults, FirstStops, FitsIn, HasOthers, Holder, InOrder, IsLegalIn, IsStale, IsStopped, IsWorkOf, List, Matches, None, Option, Program, Seen, Setting, Some, Stale, StopsTurn, TurnFault, Work, ap, arith, count_by, dealt, free_setting, get_or_from_slice_get, inl, inr, length, refl, slice_get, slice_get-get_or, slice_get_within, slice_index_or, subst, sym, times_in, turns_for, ℕ, [], ◌+◌, ◌<◌, ◌==◌, ◌∙◌, ◌≡◌, ◌≤◌}

-- what is added to nothing
from_nothing : (m n k : ℕ) → m ≡ n + k → n ≡ 0 → m ≡ k
from_nothing m n k sum none = omega (arith, sum, none)

module _ (program : Program) (opened closed : Seen) (before after : List Holder) (p : ℕ) (empty : opened.history ≡ [])
    (seats : opened.setting.program.limits.processors ≡ p) (deals : AreDealt opened before)
    (made : AllMade opened.setting program before after) (order : InOrder p after)
    (agree : CountsAgree closed after) where
  -- each actor has had its turns
  pub free_turns : (actor : ℕ) → actor ≤ p → times_in closed actor ≡ turns_for program actor
  free_turns actor there =
      let d = dealt opened actor in
      let old = slice_index_or before actor d in
      let new = slice_index_or after actor d in
      let in_before : actor < length before = omega (arith, there, seats, deals.count) in
      let in_after : actor < length after = omega (arith, there, order.count) in
      let at_new : slice_get after actor ≡ Some new = slice_get-get_or after actor d in_after in
      let was : old ≡ dealt opened actor = deals.each actor old (slice_get-get_or before actor d in_before) in
      let its : new.actor ≡ actor = order.actors actor new at_new in
      let does = made actor d in_before in
      let first : old.turns ≡ 0 = ap (λ (h : Holder). h.turns) was ∙ ap (λ h. count_by (λ a. a == actor) h) empty in
      let of_old : old.actor ≡ actor = ap (λ (h : Holder). h.actor) was in
      ap (λ a. times_in closed a) (sym its) ∙ sym (agree actor new at_new) ∙ from_nothing new.turns old.turns
      (turns_for program old.actor) does.made.turns first ∙ ap (λ a. turns_for program a) of_old

-- ---- a worker's own program

module _ (setting : Setting) (program : Program) (actor : ℕ) (fault : TurnFault) (own : setting.program ≡ program) where
  -- a work of the program fits it
  fits : (work : Option Work) → AtSome setting (λ x. IsWorkOf x actor work) → ¬ IsStale program work fault
  fits None had stale = stale
  fits (Some work) had stale =
      let is = had.is_so.1 in
      stale.1 (subst (λ (p : Program). FitsIn p work) own
      (record { script = is.there; place = is.fits; budget = is.some_left }))

  -- and its slice is refused only for a work that came later
  never_stale : StopsTurn setting program actor fault → (now : Option Work) → ¬ (fault ≡ Stale now)
  never_stale stops now is = elim stops.stops.is_so [
    | inl unfit ↦ fits stops.work stops.had unfit
    | inr refused ↦
        let seen : Seen = record { setting = setting; history = stops.stops.history } in
        let stale = subst (λ f. Faults seen actor refused.0 f) is refused.2 in
        stale.1 (subst (λ (p : Program). Matches p now refused.0) (sym own)
        (subst (λ work. Matches program work refused.0) (sym (stops.last now is)) refused.1))
  ]

-- ---- runs that give no system back

module _ (program : Program) (opened : Seen) (setting : opened.setting ≡ free_setting program)
    (empty : opened.history ≡ []) (before after : List Holder) (deals : AreDealt opened before) where
  new_seats : AreDealt (record { setting = free_setting program; history = [] }) before
  new_seats =
      let same : opened ≡ record { setting = free_setting program; history = [] } =
      λ i. record { setting = setting i; history = empty i } in
      subst (λ (x : Seen). AreDealt x before) same deals

  -- the first seat that was stopped
  pub was_stopped : (station : Setting) (fault : TurnFault) → station ≡ opened.setting
      → FirstStops station program fault before after → IsStopped program fault
  was_stopped station fault is stops =
      let first = subst (λ (s : Setting). FirstStops s program fault before after) (is ∙ setting) stops in
      let d = dealt opened 0 in
      let stopped = (first.stopped first.place d first.there refl).0 in
      record {
        not_stale = never_stale (free_setting program) program
            (slice_index_or before first.place d).actor fault refl stopped.stops;
        before = before;
        after = after;
        dealt = new_seats;
        first = first;
      }

  module _ (station : Setting) (is : station ≡ opened.setting) (made : AllMade station program before after)
      (as_many : length after ≡ length before) where
    -- the seats are still in order
    pub still_in_order : InOrder station.program.limits.processors after
    still_in_order =
        record {
          count = as_many ∙ deals.count ∙ ap (λ (s : Setting). s.program.limits.processors + 1) (sym is);
          actors = λ k s at.
              let low : k < length before = omega (arith, slice_get_within after k s at, as_many) in
              let old = slice_index_or before k s in
              let was : old ≡ dealt opened k = deals.each k old (slice_get-get_or before k s low) in
              let now : slice_index_or after k s ≡ s = get_or_from_slice_get after k s s at in
              ap (λ (h : Holder). h.actor) (sym now) ∙ (made k s low).made.actor ∙ ap (λ (h : Holder). h.actor) was;
        }

    -- the history has other turns
    pub has_others : (closed : Seen) → closed.setting ≡ station → IsLegalIn closed → ¬ CountsAgree closed after
        → HasOthers program
    has_others closed same legal differ =
        record {
          before = before;
          after = after;
          closed = closed;
          dealt = new_seats;
          made = subst (λ (s : Setting). AllMade s program before after) (is ∙ setting) made;
          setting = same ∙ is ∙ setting;
          legal = legal;
          differ = differ;
        }
