-- `candidates::map_triple`. Assumes nothing.
use mathlib.Core.Path.{◌∙◌}
use native.Mathlib.Omega.{arith}
use Rattle.labels.specs.Labels.{label_count}
use Rattle.candidates.proofs.Mapping.{relabel-labels, connect-labels, relabelled, connected, atom-leaves, rule-leaves, union-leaves, name-leaves}
use Rattle.candidates.proofs.map_triple.Goals as goal

pub relabel_triple-requires : goal.relabel_triple-requires
relabel_triple-requires c = relabel-labels label_count _ c.in-Relabel.is c.requires

pub settled-requires : goal.settled-requires
settled-requires c = (connect-labels label_count _ c.in-Connect.is c.requires).0

pub overflow_add-met : goal.overflow_add-met
overflow_add-met c =
    let h = connect-labels label_count _ c.in-Connect.is c.requires in
    omega arith

pub overflow_shl-met : goal.overflow_shl-met
overflow_shl-met c =
    let h = connect-labels label_count _ c.in-Connect.is c.requires in
    omega arith

pub returns-in-Relabel : goal.returns-in-Relabel
returns-in-Relabel c = c.relabel_triple.ensures ∙ relabelled label_count _ _ _ _ _ c.in-Relabel.is

pub returns-in-Connect : goal.returns-in-Connect
returns-in-Connect c =
    let h = connect-labels label_count _ c.in-Connect.is c.requires in
    connected label_count _ _ _ _ _ _ _ c.in-Connect.is c.settled.ensures (omega arith)

pub returns-in-Atom : goal.returns-in-Atom
returns-in-Atom c = atom-leaves label_count _ _ _ _ c.in-Atom.is

pub returns-in-Rule : goal.returns-in-Rule
returns-in-Rule c = rule-leaves label_count _ _ _ _ c.in-Rule.is

pub returns-in-Union : goal.returns-in-Union
returns-in-Union c = union-leaves label_count _ _ _ c.in-Union.is

pub returns-in-Name : goal.returns-in-Name
returns-in-Name c = name-leaves label_count _ _ _ _ c.in-Name.is
