-- The input decides the text written.
use Rattle.lot_system.proofs.Common.{Bool, EndsPlay, InputFault, IoFault, List, Ok, Option, Played, Program, Result, came_of, output_of, program_in, subst, sym, ℕ, ◌≡◌}
use Rattle.lot_system.proofs.inputs.play_bytes.Goals as goal

comes-of : (old new : Option (List ℕ)) (failed : Bool) (r : Result Played IoFault)
    (read parsed : Result Program InputFault) → read ≡ parsed → EndsPlay old new failed r (came_of parsed)
    (output_of parsed) → EndsPlay old new failed r (came_of read) (output_of read)
comes-of old new failed r read parsed is ends =
    subst (λ (x : Result Program InputFault). EndsPlay old new failed r (came_of x) (output_of x)) (sym is) ends

pub returns-in-Ok-clause-flushed : goal.returns-in-Ok-clause-flushed
returns-in-Ok-clause-flushed g c = c.play_parsed.ensures.flushed

pub returns-in-Ok-clause-played : goal.returns-in-Ok-clause-played
returns-in-Ok-clause-played g c =
    comes-of (g.W.Write.contents c.args.writer.now.inner)
    (g.W.Write.contents c.play_parsed.new.writer.inner) c.play_parsed.new.writer.failed c.play_parsed.result
    (program_in c.args.bytes.now) (Ok c.in-Ok.program) c.in-Ok.ensures.program
    c.play_parsed.ensures.played

pub returns-in-Err-Input-clause-flushed : goal.returns-in-Err-Input-clause-flushed
returns-in-Err-Input-clause-flushed g c = c.refuse.ensures.flushed

pub play_parsed-requires : goal.play_parsed-requires
play_parsed-requires g c = c.requires

pub refuse-requires : goal.refuse-requires
refuse-requires g c = c.requires
