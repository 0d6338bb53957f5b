-- `operations::act`: one function for each kind of command.
use Rattle.leaves.proofs.Writing.{wide-two}
use Rattle.leaves.proofs.Atoms.{keeps-both}
use Rattle.operations.proofs.Dispatch.{acts-as, atom-acts, rule-acts, union-acts, relabel-acts, connect-acts, atom-meets, rule-meets, union-meets, relabel-meets, connect-meets, relabel-joins, connect-joins, pass-acts, name-acts, name_meets}
use Rattle.operations.proofs.act.Goals as goal

pub push_atom-requires-clause-wide : goal.push_atom-requires-clause-wide
push_atom-requires-clause-wide c =
    let h = atom-meets c.args.d c.args.t c.in-Atom.is c.requires.suits.0 c.requires.suits.1 in
    (c.requires.wide.0, c.requires.wide.3, c.requires.wide.4, c.requires.wide.5, c.requires.wide.6, h.0, keeps-both c.args.carry c.requires.suits.2)

pub push_atom-requires-clause-t_bound : goal.push_atom-requires-clause-t_bound
push_atom-requires-clause-t_bound c =
    let h = atom-meets c.args.d c.args.t c.in-Atom.is c.requires.suits.0 c.requires.suits.1 in
    (h.1, (c.args.n, c.args.m, c.requires.suits.3))

pub push_rule-requires-clause-le_w : goal.push_rule-requires-clause-le_w
push_rule-requires-clause-le_w c =
    let h = rule-meets c.args.d c.args.t c.in-Rule.is c.requires.suits.0 c.requires.suits.1 in
    (wide-two c.args.kind c.args.w c.requires.wide.0, c.requires.wide.2, c.requires.wide.3, c.requires.wide.4, c.requires.wide.5, c.requires.wide.6, h.0)

pub push_rule-requires-clause-t_bound : goal.push_rule-requires-clause-t_bound
push_rule-requires-clause-t_bound c =
    let h = rule-meets c.args.d c.args.t c.in-Rule.is c.requires.suits.0 c.requires.suits.1 in
    (h.1, (c.args.n, c.args.m, c.requires.suits.3))

pub unite_newest-requires-clause-le_t : goal.unite_newest-requires-clause-le_t
unite_newest-requires-clause-le_t c =
    (union-meets c.args.d c.args.t c.in-Union.is c.requires.suits.1, c.requires.suits.3)

pub map_by-requires-clause-suits : goal.map_by-requires-clause-suits
map_by-requires-clause-suits c =
    (c.requires.suits.0, relabel-joins c.in-Relabel.is)

pub map_by-requires-clause-le_t : goal.map_by-requires-clause-le_t
map_by-requires-clause-le_t c =
    (relabel-meets c.args.d c.args.t c.in-Relabel.is c.requires.suits.1, (c.args.m, c.requires.suits.3))

pub map_by-requires-in-Connect-clause-suits : goal.map_by-requires-in-Connect-clause-suits
map_by-requires-in-Connect-clause-suits c =
    (c.requires.suits.0, connect-joins c.in-Connect.is)

pub map_by-requires-in-Connect-clause-le_t : goal.map_by-requires-in-Connect-clause-le_t
map_by-requires-in-Connect-clause-le_t c =
    (connect-meets c.args.d c.args.t c.in-Connect.is c.requires.suits.1, (c.args.m, c.requires.suits.3))

pub returns-in-Atom : goal.returns-in-Atom
returns-in-Atom c =
    λ o a x. acts-as (atom-acts c.args.kind c.args.carry o a x _ c.in-Atom.is) (c.push_atom.ensures c.args.n c.args.m)

pub returns-in-Rule : goal.returns-in-Rule
returns-in-Rule c =
    λ o a x. acts-as (rule-acts c.args.kind c.args.carry o a _ c.in-Rule.is) (c.push_rule.ensures c.args.n c.args.m)

pub returns-in-Union : goal.returns-in-Union
returns-in-Union c =
    λ o a x. acts-as (union-acts c.args.kind c.args.carry o a c.in-Union.is) c.unite_newest.ensures

pub returns-in-Relabel : goal.returns-in-Relabel
returns-in-Relabel c =
    λ o a x. acts-as (relabel-acts c.args.kind c.args.carry o a _ _ c.in-Relabel.is) (c.map_by.ensures c.args.m)

pub returns-in-Connect : goal.returns-in-Connect
returns-in-Connect c =
    λ o a x. acts-as (connect-acts c.args.kind c.args.carry o a _ _ _ c.in-Connect.is) (c.map_by-in-Connect.ensures c.args.m)

pub returns-in-Name : goal.returns-in-Name
returns-in-Name c =
    λ o a x. acts-as (name-acts c.args.kind c.args.carry o a _ c.in-Name.is) (pass-acts (wide-two c.args.kind c.args.w c.requires.wide.0) (name_meets c.args.d c.args.t c.in-Name.is c.requires.suits.1))
