-- The elements of a list of nodes, and the list of their threads.
use Rattle.lot_queues.proofs.Common.{Contains, Contains-append_cases, Contains-append_left, Contains-append_right, List, QueuedCall, ap, ap₂, arith, call_of, drop, get_or, get_or-map, get_or-set_other, get_or_default, inl, inr, length, length-map, map, refl, remove, set, subst, suc, sym, take, take-append-drop, zero, ℕ, [], ◌++◌, ◌+◌, ◌-◌, ◌<◌, ◌∙◌, ◌∷◌, ◌≡◌, ◌⊎◌}
pub use Rattle.lot_machine.proofs.EachOnce.{contains-nothing}

pub contains-drop : {A : Type 0} (xs : List A) (k : ℕ) (x : A) → Contains (drop k xs) x → Contains xs x
contains-drop {A} xs k x w =
    subst (λ (ys : List A). Contains ys x) (take-append-drop k xs) (Contains-append_right (take k xs) (drop k xs) x w)

contains-take : {A : Type 0} (xs : List A) (k : ℕ) (x : A) → Contains (take k xs) x → Contains xs x
contains-take {A} xs k x w =
    subst (λ (ys : List A). Contains ys x) (take-append-drop k xs) (Contains-append_left (take k xs) (drop k xs) x w)

pub contains-remove : {A : Type 0} (xs : List A) (place : ℕ) (x : A) → Contains (remove xs place) x → Contains xs x
contains-remove {A} xs place x w = from (Contains-append_cases (take place xs) (drop (suc place) xs) x w)
  where
    from : Contains (take place xs) x ⊎ Contains (drop (suc place) xs) x → Contains xs x
    from (inl left) = contains-take xs place x left
    from (inr right) = contains-drop xs (suc place) x right

-- ---- the threads of nodes

pub contains-thread : (nodes : List ℕ) (node : ℕ) → Contains nodes node → Contains (map (λ n. n + 1) nodes) (node + 1)
contains-thread nodes node w =
    (w.0, omega (arith, w.1, length-map nodes (λ (n : ℕ). n + 1)), get_or-map (λ n. n + 1) nodes w.0 node (node + 1) w.1 ∙ ap (λ n. n + 1) w.2)

pub contains-node : (nodes : List ℕ) (t : ℕ) → Contains (map (λ n. n + 1) nodes) t → (0 < t) × Contains nodes (t - 1)
contains-node nodes t w =
    let within : w.0 < length nodes = omega (arith, w.1, length-map nodes (λ (n : ℕ). n + 1)) in
    let is : t ≡ get_or nodes w.0 0 + 1 = sym w.2 ∙ get_or-map (λ n. n + 1) nodes w.0 0 t within in
    (omega (arith, is), (w.0, within, get_or_default nodes w.0 (t - 1) 0 within ∙ omega (arith, is)))

-- who called
pub callers : (sent nodes : List ℕ)
    → map (λ (call : QueuedCall). call.caller) (map (call_of sent) nodes) ≡ map (λ n. n + 1) nodes
callers sent [] = refl
callers sent (n ∷ nodes) = ap (λ ts. (n + 1) ∷ ts) (callers sent nodes)

pub map-drop : {A B : Type 0} (f : A → B) (xs : List A) → map f (drop 1 xs) ≡ drop 1 (map f xs)
map-drop f [] = refl
map-drop f (x ∷ xs) = refl

pub map-remove : {A B : Type 0} (f : A → B) (xs : List A) (place : ℕ)
    → map f (remove xs place) ≡ remove (map f xs) place
map-remove f [] zero = refl
map-remove f [] (suc place) = refl
map-remove f (x ∷ xs) zero = refl
map-remove f (x ∷ xs) (suc place) = ap (λ ys. f x ∷ ys) (map-remove f xs place)

pub map-push : {A B : Type 0} (f : A → B) (xs : List A) (x : A) → map f (xs ++ x ∷ []) ≡ map f xs ++ f x ∷ []
map-push f [] x = refl
map-push f (y ∷ xs) x = ap (λ ys. f y ∷ ys) (map-push f xs x)

-- a number that another node sent doesn't matter to these calls
pub calls-kept : (sent nodes : List ℕ) (node number : ℕ) → ¬ Contains nodes node
    → map (call_of (set sent node number)) nodes ≡ map (call_of sent) nodes
calls-kept sent [] node number absent = refl
calls-kept sent (n ∷ nodes) node number absent =
    ap₂ ◌∷◌ (ap (λ (sent_now : ℕ). let call : QueuedCall = record { caller = n + 1; number = sent_now } in call)
    (get_or-set_other sent node n number 0 (λ same. absent (zero, omega arith, same))))
    (calls-kept sent nodes node number (λ w. absent (suc w.0, omega (arith, w.1), w.2)))
