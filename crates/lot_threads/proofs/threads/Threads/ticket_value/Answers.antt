use Rattle.lot_threads.proofs.Lemmas.{AreOf, Bool, IsFunding, LimitedFunding, List, Valued, ap, counted_up, false, graph-is, is_funding, live_in, option_any, refl, sizes_of, subst, sym, ticket_at, ticket_value, true, ℕ, ◌∙◌, ◌≡◌}
use Rattle.lot_threads.proofs.threads.Threads.ticket_value.Goals as goal

-- nothing but what was counted is another
read-alone : (v new : Valued) (n : ℕ)
    → (IsFunding v.now.funding n → new ≡ record v { known = record v.known { reads = counted_up v.known.reads 1 } })
    → (¬ IsFunding v.now.funding n → new ≡ v) → new ≡ record v { known = record v.known { reads = new.known.reads } }
read-alone v new n counted uncounted = by (option_any is_funding (ticket_at v.now.funding n)) refl
  where
    with : (reads : ℕ) → new ≡ record v { known = record v.known { reads = reads } }
        → new ≡ record v { known = record v.known { reads = new.known.reads } }
    with reads is = is
        ∙ ap (λ k. record v { known = record v.known { reads = k } }) (sym (ap (λ (x : Valued). x.known.reads) is))

    by : (b : Bool) → option_any is_funding (ticket_at v.now.funding n) ≡ b
        → new ≡ record v { known = record v.known { reads = new.known.reads } }
    by true is = with (counted_up v.known.reads 1) (counted is)
    by false is = with v.known.reads (uncounted (λ funds. let never : true ≡ false = sym funds ∙ is in cc))

pub invariant_of-self : goal.invariant_of-self
invariant_of-self c =
    let i = c.self.inside in
    let of = c.self.invariant.together in
    let same = read-alone i.graph c.ticket_value.new.self c.args.ticket.number c.ticket_value.ensures.counted
    c.ticket_value.ensures.uncounted in
    record {
      together = subst (λ (v : Valued).
          AreOf (sizes_of i.lending) v i.queue i.threads.items i.records.items i.runners.items) (sym same) (record {
            names = of.names;
            lends = of.lends;
            live = of.live;
            ready = of.ready;
            competes = record { places = of.competes.places; there = of.competes.there };
            weights = of.weights;
            timely = of.timely;
            runs = of.runs;
          });
      thread_room = subst (λ (v : Valued). i.threads.room ≡ v.now.thread_limit) (sym same) c.self.invariant.thread_room;
      record_room = subst (λ (v : Valued). i.records.room ≡ v.now.thread_limit) (sym same) c.self.invariant.record_room;
    }

pub returns-clause-worth : goal.returns-clause-worth
returns-clause-worth c =
    let i = c.self.inside in
    let was = graph-is i.graph i.queue i.threads.items i.records.items i.runners.items c.self.invariant.together in
    rw (← c.self.view_is) (λ t there. c.ticket_value.ensures.worth t there
    ∙ ap
    (λ (live : List Bool). ticket_value i.graph.known.unit i.graph.now.funding live t) c.self.invariant.together.live
    ∙ ap (λ (w : LimitedFunding). ticket_value i.graph.known.unit w.funding (live_in i.records.items) t) was)
