-- The statuses that inputs call for, and the outcomes of inputs.
use Rattle.lot_command.proofs.Common.{Bool, Err, ExitStatus, HasCome, HasRead, IfOk, IfSome, InputFault, IoFault, IsStatusFor, List, None, Ok, OnOk, Option, Played, Plays, Program, Request, Result, Showing, Some, View, Watch, any_ends_refused, ap, came_of, ends_refused, ends_refused_in, false, inl, input_ends_refused, inr, is_some, last_moment, program_in, refl, result_ok, seeded, seeds_between, status_of, status_of_input, subst, sym, true, view_ends_refused, with_seed, ℕ, [], ◌&&◌, ◌||◌, ◌∙◌, ◌∷◌, ◌≡◌}
use Rattle.lot_system.specs.declared.inputs.Played.TheVariants as played
use Rattle.lot_command.specs.declared.command_line.request.Request.TheVariants as requests
use Rattle.lot_command.specs.declared.exit_status.ExitStatus.TheVariants as status
use Rattle.lot_command.specs.declared.command_line.request.View.TheVariants as views

-- ---- a request

-- on any result a fact that holds anyway
pub on-any : {A E P : Type 0} (r : Result A E) → P → OnOk r P
on-any (Ok x) p = p
on-any (Err e) p = tt

abbrev showing_or : Showing → Request → Showing
showing_or other (requests.Show showing) = showing
showing_or other requests.Run = other

-- a request shows one view with one seed
pub showing-is : (request : Request) (one other : Showing) → request ≡ requests.Show one → request ≡ requests.Show other
    → one ≡ other
showing-is request one other is so = ap (showing_or one) (sym is ∙ so)

-- the value of a result, as an option
pub if-ok : {A E : Type 0} (P : A → Type 0) (r : Result A E) (o : Option A) → o ≡ result_ok r → IfOk r P → IfSome o P
if-ok {A = A} P (Ok x) o is p = subst (λ (v : Option A). IfSome v P) (sym is) p
if-ok {A = A} P (Err e) o is p = subst (λ (v : Option A). IfSome v P) (sym is) tt

-- no refusal ends the play of a refused input
pub refused-stops : (view : View) (seed : Option ℕ) (bytes : List ℕ) (fault : InputFault) (old : Bool)
    → seeded seed (program_in bytes) ≡ Err fault → (old || input_ends_refused view seed bytes) ≡ old
refused-stops view seed bytes fault old is = ap (λ input. old || ends_refused_in view input) is ∙ back old
  where
    back : (b : Bool) → (b || false) ≡ b
    back true = refl
    back false = refl

-- what a play in this view records of the input in these bytes
pub played-stops : (r : Result Played IoFault) (view : View) (seed : Option ℕ) (bytes : List ℕ) (program : Program)
    (old mid new : Bool) → seeded seed (program_in bytes) ≡ Ok program → mid ≡ old
    → OnOk r (new ≡ (mid || view_ends_refused view program))
    → OnOk r (new ≡ (old || input_ends_refused view seed bytes))
played-stops (Ok came) view seed bytes program old mid new is kept told =
    told ∙ ap (λ b. b || view_ends_refused view program) kept ∙ ap (λ input. old || ends_refused_in view input) (sym is)
played-stops (Err fault) view seed bytes program old mid new is kept told = told

-- what came of the bytes that were read
pub come-of : {T : Type 0} (contents : T → Option (List ℕ)) (old new : Watch T) (result : Result Played IoFault)
    (view : View) (seed : Option ℕ) (left rest : Option (List ℕ)) (before after : Bool) (bytes text : List ℕ)
    → HasRead left rest bytes
    → Plays contents old new result (came_of (program_in bytes)) text
    → OnOk result (after ≡ (before || input_ends_refused view seed bytes))
    → IfOk result (HasCome view seed left rest before after)
come-of contents old new (Ok came) view seed left rest before after bytes text read plays stopped =
    record { bytes = bytes; read = read; outcome = plays.0; stopped = stopped }
come-of contents old new (Err fault) view seed left rest before after bytes text read plays stopped = stopped

-- the status after it
pub status-for : (view : View) (seed : Option ℕ) (left rest : Option (List ℕ)) (before after : Bool)
    (came : Option Played) (result : ExitStatus) → before ≡ false
    → IfSome came (HasCome view seed left rest before after) → result ≡ status_of came after
    → IsStatusFor view seed left result
status-for view seed left rest before after None result none come is = inl is
status-for view seed left rest before after (Some p) result none come is =
    inr (
      come.bytes,
      rest,
      come.read,
      is ∙ ap (λ o. status_of (Some o) after) come.outcome ∙ ap (status_of (Some (came_of (program_in come.bytes))))
          (come.stopped ∙ ap (λ b. b || input_ends_refused view seed come.bytes) none),
    )

-- ---- an input

and-false : (b : Bool) → (b && false) ≡ false
and-false true = refl
and-false false = refl

ends-lenient : (program : Program) → program.options.strict ≡ false → ends_refused program ≡ false
ends-lenient program is = ap (λ b. is_some program.duration && (b && (last_moment program).has_refused)) is
    ∙ and-false (is_some program.duration)

any-lenient : (program : Program) → program.options.strict ≡ false → (seeds : List ℕ)
    → any_ends_refused program seeds ≡ false
any-lenient program is [] = refl
any-lenient program is (seed ∷ seeds) = ap (λ b. b || any_ends_refused program seeds)
    (ends-lenient (with_seed (Some seed) program) is) ∙ any-lenient program is seeds

-- a refusal ends no play of a program that isn't strict
view-lenient : (view : View) (program : Program) → program.options.strict ≡ false
    → view_ends_refused view program ≡ false
view-lenient views.Play program is = ends-lenient program is
view-lenient (views.Report None form) program is = ends-lenient program is
view-lenient (views.Report (Some seeds) form) program is = any-lenient program is (seeds_between seeds.first seeds.last)
view-lenient (views.Explain detail) program is = ends-lenient program is
view-lenient (views.Shares measure interval window) program is = ends-lenient program is
view-lenient (views.Chart by interval window) program is = ends-lenient program is

strict-seeded : (seed : Option ℕ) (program : Program) → (with_seed seed program).options.strict ≡ program.options.strict
strict-seeded None program = refl
strict-seeded (Some seed) program = refl

abbrev status_of_read : View → Option ℕ → Result Program InputFault → ExitStatus
status_of_read view seed input = status_of (Some (came_of input)) (ends_refused_in view (seeded seed input))

pub lenient-done : (view : View) (seed : Option ℕ) (bytes : List ℕ) (program : Program) → program_in bytes ≡ Ok program
    → program.options.strict ≡ false → status_of_input view seed bytes ≡ status.Done
lenient-done view seed bytes program is lenient =
    ap (status_of_read view seed) is ∙ ap (status_of (Some played.Done))
    (view-lenient view (with_seed seed program) (strict-seeded seed program ∙ lenient))

pub refused-refused : (view : View) (seed : Option ℕ) (bytes : List ℕ) (fault : InputFault)
    → program_in bytes ≡ Err fault → status_of_input view seed bytes ≡ status.Refused
refused-refused view seed bytes fault is = ap (status_of_read view seed) is

pub stopped-refused : (view : View) (bytes : List ℕ) (program : Program) → program_in bytes ≡ Ok program
    → view_ends_refused view program ≡ true → status_of_input view None bytes ≡ status.Refused
stopped-refused view bytes program is stopped = ap (status_of_read view None) is
    ∙ ap (status_of (Some played.Done)) stopped
