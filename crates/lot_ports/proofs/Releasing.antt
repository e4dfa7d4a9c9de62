-- The clients of a server, released one after another.
use Rattle.lot_ports.proofs.Common.{IsStaleIn, IsThere, List, MakesStaleIn, Node, None, Option, QueueLists, Record, Some, Threaded, ap, append-nil, append_assoc, arith, at_number, change_each, change_record, clients_of, drop, each-append, each-between, each-length, first-none, first-some, first_client, inl, inr, length, length-set, makes-each, number-again, number-kept, number-some, refl, released, set_number, sym, unwrap_or, with_records, ℕ, [], ◌++◌, ◌-◌, ◌<◌, ◌∙◌, ◌∷◌, ◌≡◌, ◌≤◌, ◌⊎◌}
use Rattle.lot_queues.proofs.Callers.{number-set}

-- some clients are released, and the others are left
pub record IsReleased (a : Threaded) (q : QueueLists) (server : ℕ) (v : Threaded) (now : QueueLists) : Type 0 where
  pub done : List ℕ
  pub left : clients_of q.clients server ≡ done ++ clients_of now.clients server
  pub threads : v ≡ with_records a (change_each released a.records done) v.stale
  pub queues : now ≡ record q { clients = set_number q.clients server (clients_of now.clients server) }
  pub kept : (node : Node) → IsStaleIn a node → IsStaleIn v node
  pub stale : MakesStaleIn a v

pub released-start : (a : Threaded) (q : QueueLists) (server : ℕ) → IsThere q.clients server → IsReleased a q server a q
released-start a q server there =
    let (clients, is) = number-some q.clients server there.0 there.1 in
    let same : set_number q.clients server (clients_of q.clients server) ≡ q.clients = number-kept q.clients server
    (clients_of q.clients server) (is ∙ ap Some (sym (ap (λ (o : Option (List ℕ)). unwrap_or o []) is))) in
    record {
      done = [];
      left = refl;
      threads = refl;
      queues = ap (λ (xs : List (List ℕ)). let next : QueueLists = record q { clients = xs } in next) (sym same);
      kept = λ node stale. stale;
      stale = λ node stale. inl stale;
    }

module _ (a : Threaded) (q : QueueLists) (server : ℕ) (there : IsThere q.clients server) (v : Threaded)
    (now : QueueLists) (so_far : IsReleased a q server v now) where
  -- the server is still there, and as many threads
  pub count : length now.clients ≡ length q.clients
  count = ap (λ (x : QueueLists). length x.clients) so_far.queues
      ∙ length-set q.clients (server - 1) (clients_of now.clients server)

  pub still-there : IsThere now.clients server
  still-there = (there.0, omega (arith, there.1, count))

  -- so a thread that is there has a record
  pub counted : length a.records ≡ length q.clients → (t : ℕ) (then : QueueLists) (clients : List ℕ)
      → then ≡ record now { clients = set_number now.clients server clients } → IsThere then.clients t
      → (1 ≤ t) × (t ≤ length v.records)
  counted same t then clients is (first, last) =
      let records : length v.records ≡ length a.records = ap (λ (x : Threaded). length x.records) so_far.threads
      ∙ each-length released a.records so_far.done in
      let size : length then.clients ≡ length now.clients = ap (λ (x : QueueLists). length x.clients) is
      ∙ length-set now.clients (server - 1) clients in
      (omega (arith, first), omega (arith, last, size, records, same, count))

  -- the next one is released
  module _ (client : ℕ) (w : Threaded) (then : QueueLists) (first : first_client now.clients server ≡ Some client)
      (rest : then ≡ record now { clients = set_number now.clients server (drop 1 (clients_of now.clients server)) })
      (set : w ≡ with_records v (change_record released v.records client) w.stale) where
    others : clients_of then.clients server ≡ drop 1 (clients_of now.clients server)
    others = ap (λ (x : QueueLists). clients_of x.clients server) rest
        ∙ number-set now.clients server (drop 1 (clients_of now.clients server)) [] still-there

    pub fewer : length (clients_of then.clients server) < length (clients_of now.clients server)
    fewer = omega (arith, ap length others, ap length (first-some (clients_of now.clients server) client first))

    threads-then : w ≡ with_records a (change_each released a.records (so_far.done ++ client ∷ [])) w.stale
    threads-then =
        set ∙ ap (λ (x : Threaded). with_records x (change_record released x.records client) w.stale) so_far.threads
        ∙ ap (λ (rs : List Record). with_records a rs w.stale)
        (sym (each-append released a.records so_far.done (client ∷ [])))

    pub released-step : ((node : Node) → IsStaleIn v node → IsStaleIn w node) → MakesStaleIn v w
        → IsReleased a q server w then
    released-step kept makes = record {
      done = so_far.done ++ client ∷ [];
      left = so_far.left ∙ ap (λ (xs : List ℕ). so_far.done ++ xs)
          (first-some (clients_of now.clients server) client first ∙ ap (λ (xs : List ℕ). client ∷ xs) (sym others))
          ∙ sym (append_assoc so_far.done (client ∷ []) (clients_of then.clients server));
      threads = threads-then;
      queues = rest ∙ ap (λ (x : QueueLists). let next : QueueLists =
          record x { clients = set_number x.clients server (drop 1 (clients_of now.clients server)) } in
          next) so_far.queues
          ∙ ap (λ (xs : List (List ℕ)). let next : QueueLists = record q { clients = xs } in next)
          (number-again q.clients server (clients_of now.clients server) (drop 1 (clients_of now.clients server))
          ∙ ap (set_number q.clients server) (sym others));
      kept = λ node stale. kept node (so_far.kept node stale);
      stale =
          makes-each a v w (ap (λ (x : Threaded). x.lending) so_far.threads, sym (ap (λ (x : Threaded). x.lending) set))
          (ap (λ (x : Threaded). x.tickets) so_far.threads)
          (λ m. inl (ap (λ (x : Threaded). at_number x.owners m) so_far.threads)) between so_far.stale makes;
    }
      where
        between : (u : ℕ)
            → (at_number v.records u ≡ at_number a.records u) ⊎ (at_number v.records u ≡ at_number w.records u)
        between u = from (each-between released (λ r. refl) a.records so_far.done (client ∷ []) u)
          where
            v_is : at_number v.records u ≡ at_number (change_each released a.records so_far.done) u
            v_is = ap (λ (x : Threaded). at_number x.records u) so_far.threads

            w_is : at_number w.records u
                ≡ at_number (change_each released (change_each released a.records so_far.done) (client ∷ [])) u
            w_is = ap (λ (x : Threaded). at_number x.records u) threads-then
                ∙ ap (λ (rs : List Record). at_number rs u) (each-append released a.records so_far.done (client ∷ []))

            from : (at_number (change_each released a.records so_far.done) u ≡ at_number a.records u)
                ⊎ (at_number (change_each released a.records so_far.done) u
                ≡ at_number (change_each released (change_each released a.records so_far.done) (client ∷ [])) u)
                → (at_number v.records u ≡ at_number a.records u) ⊎ (at_number v.records u ≡ at_number w.records u)
            from (inl same) = inl (v_is ∙ same)
            from (inr same) = inr (v_is ∙ same ∙ sym w_is)

  -- none is left
  module _ (none : first_client now.clients server ≡ None) where
    empty : clients_of now.clients server ≡ []
    empty = first-none (clients_of now.clients server) none

    pub released-all : v ≡ with_records a (change_each released a.records (clients_of q.clients server)) v.stale
    released-all =
        let all : clients_of q.clients server ≡ so_far.done = so_far.left
        ∙ ap (λ (xs : List ℕ). so_far.done ++ xs) empty ∙ append-nil so_far.done in
        so_far.threads ∙ ap (λ (us : List ℕ). with_records a (change_each released a.records us) v.stale) (sym all)

    pub released-queues : now ≡ record q { clients = set_number q.clients server [] }
    released-queues = so_far.queues ∙ ap
        (λ (xs : List ℕ). let next : QueueLists = record q { clients = set_number q.clients server xs } in next) empty
