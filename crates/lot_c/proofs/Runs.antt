-- Events in order, a step at a time.
use Rattle.lot_c.proofs.Common.{AreDone, Event, IsDone, List, Ok, PlainEvent, PlainReply, Sizes, Snapshot, State, ap, append_assoc, arith, drop-set-lt, drop_more, event_meant, events_meant, fault_or, first_fault, get_or, in_front, length, plain_reply, replies, replies_written, set, step, subst, take, take_more_set, written_by, ℕ, [], ◌++◌, ◌+◌, ◌<◌, ◌∙◌, ◌∷◌, ◌≡◌}
use Rattle.std.proofs.Common.{drop}

module _ (sizes : Sizes) (es : List PlainEvent) (i : ℕ) (d : PlainEvent) (e : Event) (below : i < length es)
    (ok : event_meant sizes (get_or es i d) ≡ Ok e) where
  -- an event that is meant comes first of those that are left
  pub meant-more : events_meant sizes (drop i es) ≡ e ∷ events_meant sizes (drop (i + 1) es)
  meant-more = rw (drop_more es i d below) (ap (λ m. in_front m (events_meant sizes (drop (i + 1) es))) ok)

  -- and it isn't at fault
  pub fault-more : first_fault sizes (drop i es) ≡ first_fault sizes (drop (i + 1) es)
  fault-more = rw (drop_more es i d below) (ap (λ m. fault_or m (first_fault sizes (drop (i + 1) es))) ok)

  -- it is done, and then the others
  pub done-more : (old mid end : Snapshot) → IsDone e (step old.state e).reply old mid
      → AreDone (events_meant sizes (drop (i + 1) es))
      (replies mid.state (events_meant sizes (drop (i + 1) es))) mid end
      → AreDone (events_meant sizes (drop i es)) (replies old.state (events_meant sizes (drop i es))) old end
  done-more old mid end one others =
      rw meant-more (mid, one, subst (λ s. AreDone (events_meant sizes (drop (i + 1) es)) (replies s (events_meant sizes (drop (i + 1) es))) mid end) one.state others)

  module _ (s : State) (rs : List PlainReply) (room : i < length rs) (same : s.limits ≡ sizes) where
    abbrev r : PlainReply
    r = plain_reply (step s e).reply

    -- its reply is written, and then the others
    pub written-more : replies_written s (drop i es)
        (drop i rs) ≡ r ∷ replies_written (step s e).state (drop (i + 1) es) (drop (i + 1) rs)
    written-more = rw (drop_more es i d below) (rw (drop_more rs i r room)
        (ap (λ m. written_by s m (get_or rs i r) (λ after. replies_written after (drop (i + 1) es) (drop (i + 1) rs))
        (drop (i + 1) rs)) (ap (λ (z : Sizes). event_meant z (get_or es i d)) same ∙ ok)))

    -- what is written so far and what is left come to the same after it
    pub written-step : take (i + 1) (set rs i r) ++ replies_written (step s e).state (drop (i + 1) es)
        (drop (i + 1) (set rs i r)) ≡ take i rs ++ replies_written s (drop i es) (drop i rs)
    written-step = rw (take_more_set rs i r room) (rw (drop-set-lt (i + 1) rs i r (omega arith)) (rw written-more
        (append_assoc (take i rs) (r ∷ []) (replies_written (step s e).state (drop (i + 1) es) (drop (i + 1) rs)))))
