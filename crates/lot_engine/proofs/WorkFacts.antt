-- An actor has exactly one work.
use Rattle.lot_engine.proofs.Common.{Fits, IsFresh, IsWork, IsWorkOf, Matches, None, Option, Parts, Place, Program, Seen, Some, Thread, Work, World, ap, context_at, context_of, one-place, option_map, refl, script_lines, subst, sym, thread_at, world_of, ℕ, ◌∙◌, ◌≡◌}

-- the work with these parts
work-of : ℕ → ℕ → Place → ℕ → Work
work-of thread script place budget = record { thread = thread; script = script; place = place; budget = budget }

-- two works with the same parts are the same
same-work : (a b : Work) → a.thread ≡ b.thread → a.script ≡ b.script → a.place ≡ b.place → a.budget ≡ b.budget → a ≡ b
unfolding work-of
same-work a b thread script context budget =
    let one : work-of a.thread a.script a.place a.budget ≡ work-of b.thread a.script a.place a.budget =
    ap (λ n. work-of n a.script a.place a.budget) thread in
    let two : work-of b.thread a.script a.place a.budget ≡ work-of b.thread b.script a.place a.budget =
    ap (λ n. work-of b.thread n a.place a.budget) script in
    let three : work-of b.thread b.script a.place a.budget ≡ work-of b.thread b.script b.place a.budget =
    ap (λ p. work-of b.thread b.script p a.budget) context in
    let four : work-of b.thread b.script b.place a.budget ≡ work-of b.thread b.script b.place b.budget =
    ap (λ n. work-of b.thread b.script b.place n) budget in
    one ∙ two ∙ three ∙ four

module _ (program : Program) (w : World) (p : ℕ) (a b : Work) (one : IsWork program w p a)
    (other : IsWork program w p b) where
  thread-one : a.thread ≡ b.thread
  thread-one = let both : Some a.thread ≡ Some b.thread = sym one.runs ∙ other.runs in cc

  script-one : a.script ≡ b.script
  script-one =
      let both : Some a.script ≡ Some b.script = sym one.script
      ∙ ap (λ t. option_map (λ (d : Thread). d.script) (thread_at w.state.threads t)) thread-one ∙ other.script in cc

  place-one : a.place ≡ b.place
  place-one =
      let lines = script_lines program a.script in
      let fits : Fits lines b.place = subst (λ n. Fits (script_lines program n) b.place) (sym script-one) other.fits in
      let means : context_at lines b.place ≡ context_of w b.thread =
      subst (λ n. context_at (script_lines program n) b.place ≡ context_of w b.thread) (sym script-one) other.means in
      one-place lines a.place b.place one.legal one.fits fits (one.means ∙ ap (context_of w) thread-one ∙ sym means)

  same-one : a ≡ b
  same-one = same-work a b thread-one script-one place-one (one.budget ∙ sym other.budget)

pub one-work : (seen : Seen) (actor : ℕ) (a b : Option Work) → IsWorkOf seen actor a → IsWorkOf seen actor b → a ≡ b
one-work seen actor None None one other = refl
one-work seen actor None (Some b) one other = let none : None ≡ Some b.thread = sym (one other.0) ∙ other.1.runs in cc
one-work seen actor (Some a) None one other = let none : None ≡ Some a.thread = sym (other one.0) ∙ one.1.runs in cc
one-work seen actor (Some a) (Some b) one other =
    ap (λ w. Some w) (same-one seen.setting.program (world_of seen) actor a b one.1 other.1)

-- what is fresh is the slice of the work
pub fresh-matches : (seen : Seen) (actor : ℕ) (work : Option Work) (given : Option Parts) → IsWorkOf seen actor work
    → IsFresh seen actor given → Matches seen.setting.program work given
fresh-matches seen actor work given is fresh =
    subst (λ w. Matches seen.setting.program w given) (one-work seen actor fresh.0 work fresh.1 is) fresh.2
