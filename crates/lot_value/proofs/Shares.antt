-- The share that a ticket's edge passes on, by its stored activity.
use Rattle.lot_value.proofs.Common.{Activity, Bool, Currency, Edge, FitsLimits, Funding, IsActive, IsKeptFor, IsTrue, LeadsInto, LimitedFunding, List, Node, OfLender, OfMutex, OfTicket, Option, Some, Ticket, active_amount, ap, ends-are, ends_of, eqb-false, eqb-true, false, is_active, is_active-exact, issuer-amount, option_map, refl, share, some-injective, subst, sym, target_of, ticket-ends, ticket_at, ticket_share, true, unwrap_or, ℕ, ◌*◌, ◌/◌, ◌==◌, ◌↔◌, ◌∙◌, ◌≡◌, ◌≢◌, ◌≤◌}
use Rattle.lot_value.proofs.Nodes.{node-number}

pub same-test : (a b : Bool) → (a ≡ true → b ≡ true) → (b ≡ true → a ≡ true) → a ≡ b
same-test true true to back = refl
same-test true false to back = sym (to refl)
same-test false true to back = back refl
same-test false false to back = refl

-- what a ticket that is there funds
pub ticket-target : (f : Funding) (n : ℕ) (t : Ticket) → ticket_at f n ≡ Some t → target_of f n ≡ Some t.target
ticket-target f n t at = ap (option_map (λ (u : Ticket). u.target)) at

-- the test of a ticket's activity says what is kept
pub active-is : (v : Activity) (w : LimitedFunding) (live : List Bool) (n : ℕ) (t : Ticket) (b : Bool)
    → IsKeptFor v w live → ticket_at w.funding n ≡ Some t → IsTrue b ↔ IsActive w.funding live n
    → is_active w.funding live t ≡ b
active-is v w live n t b kept at says =
    let exact = is_active-exact w.funding kept.sound.no_cycle kept.sound.funds_there live n t at in
    same-test (is_active w.funding live t) b (λ yes. says.1 (exact.0 yes)) (λ yes. exact.1 (says.0 yes))

module _ (unit : ℕ) (f : Funding) (live : List Bool) (worth : Node → ℕ) (n : ℕ) (t : Ticket)
    (at : ticket_at f n ≡ Some t) where
  share-is : share unit f live worth (OfTicket n) ≡ ticket_share unit f live worth t
  share-is = ap (λ (o : Option Ticket). unwrap_or (option_map (ticket_share unit f live worth) o) 0) at

  pub share-off : is_active f live t ≡ false → 0 ≡ share unit f live worth (OfTicket n)
  share-off off = sym (share-is ∙ rw off refl)

  pub share-base : is_active f live t ≡ true → t.issuer ≡ 0 → t.amount * unit ≡ share unit f live worth (OfTicket n)
  share-base on base = sym (share-is ∙ by (t.issuer == 0) refl)
    where
      by : (b : Bool) → (t.issuer == 0) ≡ b → ticket_share unit f live worth t ≡ t.amount * unit
      by true e = rw (on, e) refl
      by false e = absurd (eqb-false t.issuer 0 e base)

  pub share-user : is_active f live t ≡ true → t.issuer ≢ 0
      → worth (Currency t.issuer) * t.amount / active_amount f live t.issuer ≡ share unit f live worth (OfTicket n)
  share-user on user = sym (share-is ∙ by (t.issuer == 0) refl)
    where
      by : (b : Bool) → (t.issuer == 0) ≡ b
          → ticket_share unit f live worth t ≡ worth (Currency t.issuer) * t.amount / active_amount f live t.issuer
      by true e = absurd (user (eqb-true t.issuer 0 e))
      by false e = rw (on, e) refl

  pub share-amount : is_active f live t ≡ true → t.amount ≤ active_amount f live t.issuer
  share-amount = issuer-amount f live n t at

-- a ticket's edge that is there has its ticket
pub edge-ticket : (f : Funding) (n : ℕ) → (to : Node) × LeadsInto f to (OfTicket n)
    → (t : Ticket) × (ticket_at f n ≡ Some t) × ((to : Node) × (ends_of f (OfTicket n) ≡ Some (Currency t.issuer, to)))
edge-ticket f n (to, (from, ends)) =
    let r = ticket-ends f n from to ends in
    (r.0, r.1, (to, ends ∙ ap (λ x. Some (x, to)) r.2))

-- its issuer is within the limits
pub ticket-here : (w : LimitedFunding) (n : ℕ) (t : Ticket) → FitsLimits w
    → (to : Node) × LeadsInto w.funding to (OfTicket n) → ticket_at w.funding n ≡ Some t → t.issuer ≤ w.currency_limit
ticket-here w n t fits there at =
    let (u, here, (to, ends)) = edge-ticket w.funding n there in
    let same : u ≡ t = some-injective u t (sym here ∙ at) in
    subst (λ (x : Ticket). x.issuer ≤ w.currency_limit) same (fits.from (OfTicket n) (Currency u.issuer) to ends)

-- an edge passes on as much, if its source is worth as much or is base
module _ (unit : ℕ) (f : Funding) (live : List Bool) (worth other : Node → ℕ) (from to : Node)
    (same : from ≢ Currency 0 → worth from ≡ other from) where
  same-ticket : (t : Ticket) → from ≡ Currency t.issuer
      → ticket_share unit f live worth t ≡ ticket_share unit f live other t
  same-ticket t is = by (t.issuer == 0) refl
    where
      by : (b : Bool) → (t.issuer == 0) ≡ b → ticket_share unit f live worth t ≡ ticket_share unit f live other t
      by true e = rw e refl
      by false e =
          let user : from ≢ Currency 0 = λ base. eqb-false t.issuer 0 e (ap node-number (sym is ∙ base)) in
          let worth_same : worth (Currency t.issuer) ≡ other (Currency t.issuer) =
          subst (λ (n : Node). worth n ≡ other n) is (same user) in
          rw (e, worth_same) refl

  pub same-share : (edge : Edge) → ends_of f edge ≡ Some (from, to)
      → share unit f live worth edge ≡ share unit f live other edge
  same-share (OfTicket n) at =
      let r = ends-are f (OfTicket n) from to at in
      share-is unit f live worth n r.0 r.1 ∙ same-ticket r.0 r.2 ∙ sym (share-is unit f live other n r.0 r.1)
  same-share (OfLender s) at =
      let r = ends-are f (OfLender s) from to at in
      subst (λ (n : Node). worth n ≡ other n) r.2 (same (λ base. cc (sym r.2 ∙ base)))
  same-share (OfMutex m) at =
      let r = ends-are f (OfMutex m) from to at in
      subst (λ (n : Node). worth n ≡ other n) r.2 (same (λ base. cc (sym r.2 ∙ base)))
