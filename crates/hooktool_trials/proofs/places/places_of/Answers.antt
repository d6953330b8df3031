use Rattle.hooktool_trials.proofs.places.places_of.Goals as goal

pub returns-in_default : goal.returns-in_default
returns-in_default c = λ places has. c.in_default.ensures places.prefix has.prefix

pub returns-in_default-type_in : goal.returns-in_default-type_in
returns-in_default-type_in c = λ places has. c.in_default-type_in.ensures places.external
    has.external

pub returns-in_default-kind_in : goal.returns-in_default-kind_in
returns-in_default-kind_in c = λ places has. c.in_default-kind_in.ensures places.kind has.kind
