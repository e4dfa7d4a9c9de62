-- A kernel's view of its tables.
use Rattle.lot_kernel.proofs.Common.{Snapshot, ap, the_invariant, the_view, threads_of, ◌∙◌, ◌≡◌}
use Rattle.lot_kernel.specs.declared.kernel.Kernel.TheInside.{Inside}
use Rattle.lot_kernel.specs.declared.tables.Tables.TheInside.{Inside as TablesInside}

module _ (tables : TablesInside) (kernel : Inside) (shown : Snapshot)
    (inner : record { tables = the_view tables } ≡ kernel) (outer : kernel.tables ≡ shown) where
  -- a kernel shows what its tables do
  pub tables-shown : the_view tables ≡ shown
  tables-shown = ap (λ (k : Inside). k.tables) inner ∙ outer

  -- its threads are those of the state that it shows
  pub threads-shown : the_invariant tables → tables.threads ≡ threads_of shown.state shown.stale shown.meter
  threads-shown inv = inv.threads ∙ ap (λ (x : Snapshot). threads_of x.state x.stale x.meter) tables-shown
