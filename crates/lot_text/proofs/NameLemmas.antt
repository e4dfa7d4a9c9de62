-- Lines that give a name to a port, a mutex, a script or a ticket.
use Rattle.lot_text.proofs.Common.{Bool, Command, Err, InputRefusal, List, Ok, Reading, Result, Some, TooLong, add_named, add_naming, after_header, body_after_header, body_place, checked, false, le-leb, length, lt-leb, nat_le, new_name, new_name_alone, refl, script_names, true, ℕ, [], ◌++◌, ◌<◌, ◌>>=◌, ◌∷◌, ◌≡◌, ◌≤◌}
use Rattle.lot_simulation.specs.declared.input.BodyWord.TheVariants as body
use Rattle.lot_simulation.specs.Reading.{only_token}

-- a line that names a port is read by its only token
pub port-line : (n : ℕ) (r : Reading) (tokens : List (List ℕ))
    → body_after_header n r body.Port tokens
    ≡ (new_name_alone 256 r.ports tokens >>= λ name. Ok (record r { place = body_place; ports = r.ports ++ name ∷ [] }))
port-line n r tokens = at (only_token (new_name r.ports) tokens) (nat_le 256 (length r.ports))
  where
    at : (name : Result (List ℕ) InputRefusal) (full : Bool)
        → ((name >>= λ name. checked ((full, TooLong) ∷ []) (record r { ports = r.ports ++ name ∷ [] })) >>= λ after.
        Ok (record after { place = body_place }))
        ≡ ((name >>= λ name. checked ((full, TooLong) ∷ []) name) >>= λ name.
        Ok (record r { place = body_place; ports = r.ports ++ name ∷ [] }))
    at (Err refusal) full = refl
    at (Ok name) true = refl
    at (Ok name) false = refl

-- a line that names a mutex is read by its only token
pub mutex-line : (n : ℕ) (r : Reading) (tokens : List (List ℕ))
    → body_after_header n r body.Mutex tokens ≡ (new_name_alone 256 r.mutexes tokens >>= λ name.
    Ok (record r { place = body_place; mutexes = r.mutexes ++ name ∷ [] }))
mutex-line n r tokens = at (only_token (new_name r.mutexes) tokens) (nat_le 256 (length r.mutexes))
  where
    at : (name : Result (List ℕ) InputRefusal) (full : Bool)
        → ((name >>= λ name. checked ((full, TooLong) ∷ []) (record r { mutexes = r.mutexes ++ name ∷ [] }))
        >>= λ after. Ok (record after { place = body_place }))
        ≡ ((name >>= λ name. checked ((full, TooLong) ∷ []) name) >>= λ name.
        Ok (record r { place = body_place; mutexes = r.mutexes ++ name ∷ [] }))
    at (Err refusal) full = refl
    at (Ok name) true = refl
    at (Ok name) false = refl

-- the name of a script is refused
pub script-refused : (n : ℕ) (before r : Reading) (token : List ℕ) (names : List (List ℕ)) (refusal : InputRefusal)
    → before ≡ r → names ≡ script_names before
    → Err refusal ≡ new_name names token
    → body_after_header n r body.Script (token ∷ []) ≡ Err refusal
script-refused n before r token names refusal same is refused = rw (← same, ← is, ← refused) refl

-- or there are as many as are allowed
pub script-full : (n : ℕ) (before r : Reading) (token : List ℕ) (names : List (List ℕ)) (name : List ℕ) → before ≡ r
    → names ≡ script_names before
    → Ok name ≡ new_name names token → 256 ≤ length before.scripts
    → body_after_header n r body.Script (token ∷ []) ≡ Err TooLong
script-full n before r token names name same is named full =
    rw (← same, le-leb 256 (length before.scripts) full, ← is, ← named) refl

-- or it is new
pub script-named : (n : ℕ) (before r : Reading) (token : List ℕ) (names : List (List ℕ)) (name : List ℕ) → before ≡ r
    → names ≡ script_names before
    → Ok name ≡ new_name names token → length before.scripts < 256
    → body_after_header n r body.Script (token ∷ []) ≡ Ok
    (record before { place = body_place; unclosed = Some (record { name = name; begins = n; lines = []; loops = 0 }) })
script-named n before r token names name same is named room =
    rw (← same, lt-leb 256 (length before.scripts) room, ← is, ← named) refl

-- the name of a ticket is refused
pub ticket-refused : (before r : Reading) (token : List ℕ) (names : List (List ℕ)) (refusal : InputRefusal)
    (command : Command) → before ≡ r
    → names ≡ before.ticket_names → Err refusal ≡ new_name names token
    → after_header (add_named r token command) ≡ Err refusal
ticket-refused before r token names refusal command same is refused = rw (← same, ← is, ← refused) refl

-- or it is new, and there is room for it
pub ticket-named : (before r : Reading) (token : List ℕ) (names : List (List ℕ)) (name : List ℕ) (command : Command)
    → before ≡ r
    → Ok name ≡ new_name names token → names ≡ before.ticket_names → length before.ticket_names < 4096
    → after_header (add_named r token command)
    ≡ after_header (add_naming (record before { ticket_names = before.ticket_names ++ name ∷ [] })
    (Some (length (before.ticket_names ++ name ∷ []))) command)
ticket-named before r token names name command same named is room =
    rw (← same, lt-leb 4096 (length before.ticket_names) room, ← is, ← named) refl
