use Rattle.lot_kernel.proofs.Lemmas.{All, IsBetween, IsInOrder, List, Mutex, None, Option, Snapshot, Some, State, Waiting, ap, arith, at_number, length, mutex_at, record-of, refl, slice_get-get_or, slice_index_or, subst, sym, tables-shown, unwrap_or, ℕ, [], ◌∙◌, ◌≡◌}
use Rattle.lot_machine.proofs.LendSums.{number-within}
use Rattle.lot_kernel.proofs.kernel.Kernel.list_waiters.Goals as goal

-- who waits for a mutex is a thread
waiters-there : (s : State) (m : ℕ) → IsInOrder s → All (IsBetween 1 (length s.records)) (mutex_at s.mutexes m).waiters
waiters-there s m order = from (at_number s.mutexes m) refl
  where
    from : (o : Option Mutex) → at_number s.mutexes m ≡ o
        → All (IsBetween 1 (length s.records)) (unwrap_or {T = Mutex} o (record { owner = None; waiters = [] })).waiters
    from None is k d below = absurd (omega (arith, below))
    from (Some mutex) is k d below =
        let t = slice_index_or mutex.waiters k d in
        let found = record-of s.records t (Waiting m)
        ((order.queues.waiters m mutex is).each k t (slice_get-get_or mutex.waiters k d below)) in
        number-within s.records t found.0 found.1

pub returns-clause-there : goal.returns-clause-there
returns-clause-there c =
    let s = c.args.self.now.state in
    let m = c.args.mutex.number in
    let shown =
    tables-shown c.self-inside.inside.0.0 c.self.inside c.args.self.now c.self-inside.view_is c.self.view_is in
    let listed = c.list_waiters.ensures.waiters ∙ ap (λ (k : Snapshot). (mutex_at k.state.mutexes m).waiters) shown in
    let order = subst (λ (k : Snapshot). IsInOrder k.state) c.self.view_is c.self.invariant in
    subst (λ (ts : List ℕ). All (IsBetween 1 (length s.records)) ts) (sym listed) (waiters-there s m order)
