-- The caller of a taken call.
use Rattle.lot_ports.proofs.Common.{Contains, List, QueuedCall, Some, ap, contains-at, map, option_map, slice_get, slice_get-map, ◌∙◌, ◌≡◌}

-- the caller of the first call is among the callers
pub caller-first : (calls : List QueuedCall) (first : QueuedCall) → slice_get calls 0 ≡ Some first
    → Contains (map (λ (call : QueuedCall). call.caller) calls) first.caller
caller-first calls first is = contains-at (map (λ (call : QueuedCall). call.caller) calls) 0 first.caller (slice_get-map
    (λ (call : QueuedCall). call.caller) calls 0 ∙ ap (option_map (λ (call : QueuedCall). call.caller)) is)
