use Rattle.lot_value.proofs.Lemmas.{Contains, IsFundedBy, IsListed, IsSwitchedOrFunded, Known, List, Node, ap, inr, listed-all, listed-so, subst, touched-then, ◌∙◌}
use Rattle.lot_value.proofs.touching.touch_listed.Goals as goal

pub returns-clause-touched : goal.returns-clause-touched
returns-clause-touched c =
    let w = c.args.graph.now in
    let (live, kept) = c.requires.kept in
    let v = c.args.active.now in
    touched-then w c.args.values.now c.touch_switched.new.values c.touch_funded.new.values (IsSwitchedOrFunded w v)
    (IsFundedBy w c.adjusted.result) (IsListed w v) c.touch_switched.ensures.touched c.touch_funded.ensures.touched
    (listed-so w v)
    (λ x so. inr (inr (subst (λ (nodes : List Node). IsFundedBy w nodes x) (c.adjusted.ensures.nodes w live kept) so)))

pub returns-clause-listed : goal.returns-clause-listed
returns-clause-listed c =
    let w = c.args.graph.now in
    let (live, kept) = c.requires.kept in
    listed-all w c.args.active.now c.adjusted.result c.touch_switched.new.values c.touch_funded.new.values
    (c.adjusted.ensures.nodes w live kept) c.touch_funded.ensures.touched.kept c.touch_switched.ensures.marked
    c.touch_switched.ensures.funded c.touch_funded.ensures.marked

pub touch_switched-requires : goal.touch_switched-requires
touch_switched-requires c =
    record { layout = c.requires.layout; kept = c.requires.kept; nodes = c.requires.switched; ends = c.requires.ends }

pub touch_funded-requires : goal.touch_funded-requires
touch_funded-requires c =
    let (live, kept) = c.requires.kept in
    record {
      layout = ap (λ (k : Known). k.layout) c.touch_switched.ensures.touched.others ∙ c.requires.layout;
      nodes = λ node d. c.requires.adjusted node
          (subst (λ (nodes : List Node). Contains nodes node) (c.adjusted.ensures.nodes c.args.graph.now live kept) d);
      ends = c.requires.ends;
    }
