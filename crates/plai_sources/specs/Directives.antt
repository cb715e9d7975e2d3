-- What the terms of a file say: its first term the module (ISO/IEC 13211-2:2000, 6.2), each other one a directive
-- (ISO/IEC 13211-1:1995, 7.4.2) or a clause. The directives `entry` and `check` are this project's.
use Rattle.std.specs.Prelude.{ℕ, cond, nat_eq, Option, Some, None, option_map, option_and_then, ok_or, Result, Ok, Err, List, [], ◌∷◌, codes}
use Rattle.std.specs.Cmp.Lexicographic.{pointwise}
use Rattle.plai_terms.specs.declared.term.Term.{Term, out-Term}
use Rattle.plai_terms.specs.declared.term.Term.TheOpen.{Term-F}
use Rattle.plai_terms.specs.declared.read_term.ReadTerm.{ReadTerm}
use Rattle.plai_clauses.specs.declared.clause.Clause.{Clause}
use Rattle.plai_clauses.specs.declared.cause.ClauseCause.{ClauseCause}
use Rattle.plai_clauses.specs.ClauseOf.{two_arguments, clause_of}
use Rattle.plai_reader.specs.Operators.{Table}
use Rattle.plai_sources.specs.declared.cause.LoadCause.{LoadCause}
use Rattle.plai_sources.specs.declared.cause.LoadCause.TheVariants as cause
use Rattle.plai_sources.specs.declared.items.Header.{Header}
use Rattle.plai_sources.specs.declared.items.Item.{Item}
use Rattle.plai_sources.specs.declared.items.Item.TheVariants as item
use Rattle.plai_sources.specs.Shapes.{atom_of, one_argument}
use Rattle.plai_sources.specs.Keys.{keys_of}
use Rattle.plai_sources.specs.Operators.{operators_of}
use Rattle.plai_sources.specs.Properties.{entry_of, check_of}

-- the name and the exports of :- module(M,[P/A,..])
abbrev pub header : List ℕ → List (List ℕ × ℕ) → Header
header name exports = record { «module» = name; exports = exports }

abbrev pub header_from : Term × Term → Option Header
header_from p = option_and_then (λ name. option_map (header name) (keys_of p.1)) (atom_of p.0)

abbrev pub header_of : Term → Option Header
header_of t = option_and_then (λ d. option_and_then header_from (two_arguments (codes "module") d)) (one_argument (codes ":-") t)

-- What a term behind the first one says: the operators from there on, and an item, if it is one.
pub record Said : Type 0 where
  pub operators : Table
  pub item : Option Item

abbrev pub says : Table → Item → Said
says table i = record { operators = table; item = Some i }

-- the module that use_module(M) names in another one
abbrev pub other_module : List ℕ → Term → Option (List ℕ)
other_module own t = option_and_then (λ name. cond (pointwise nat_eq name own) None (Some name)) (atom_of t)

abbrev pub import : Option (List (List ℕ × ℕ)) → List ℕ → Item
import keys name = item.UseModule name keys

-- use_module(M)
abbrev pub import_all : List ℕ → Term → Option Item
import_all own t = option_map (import None) (other_module own t)

-- use_module(M,[P/A,..])
abbrev pub import_some : List ℕ → Term → Term → Option Item
import_some own t keys = option_and_then (λ name. option_map (λ ks. import (Some ks) name) (keys_of keys)) (other_module own t)

-- a directive of one argument, and of two, by its name, in a module
abbrev pub item_of_one : List ℕ → List ℕ → Term → Result Item LoadCause
item_of_one own name x =
    cond (pointwise nat_eq name (codes "use_module")) (ok_or (import_all own x) cause.BadDirective)
    (cond (pointwise nat_eq name (codes "entry")) (ok_or (option_map item.Entry (entry_of x)) cause.BadProperty)
    (cond (pointwise nat_eq name (codes "check")) (ok_or (option_map item.Check (check_of x)) cause.BadProperty)
    (Err cause.BadDirective)))

abbrev pub item_of_two : List ℕ → List ℕ → Term → Term → Result Item LoadCause
item_of_two own name x y = cond (pointwise nat_eq name (codes "use_module")) (ok_or (import_some own x y) cause.BadDirective) (Err cause.BadDirective)

abbrev pub with_item : Table → Result Item LoadCause → Result Said LoadCause
with_item table (Err c) = Err c
with_item table (Ok i) = Ok (says table i)

abbrev pub with_operators : Option Table → Result Said LoadCause
with_operators None = Err cause.BadOperator
with_operators (Some table) = Ok (record { operators = table; item = None })

-- a directive, by its name and arguments
abbrev pub directive_at : List ℕ → Table → List ℕ → List Term → Result Said LoadCause
directive_at own table name (x ∷ []) = with_item table (item_of_one own name x)
directive_at own table name (x ∷ y ∷ []) = with_item table (item_of_two own name x y)
directive_at own table name (x ∷ y ∷ z ∷ []) =
    cond (pointwise nat_eq name (codes "op")) (with_operators (operators_of table x y z)) (Err cause.BadDirective)
directive_at own table name _ = Err cause.BadDirective

abbrev pub directive_in : List ℕ → Table → Term-F Term → Result Said LoadCause
directive_in own table (Term-F.Compound name args) = directive_at own table name args
directive_in own table _ = Err cause.BadDirective

abbrev pub directive_of : List ℕ → Table → Term → Result Said LoadCause
directive_of own table t = directive_in own table (out-Term t)

-- A clause is kept as its term. What it calls is settled when all files are read.
abbrev pub clause_from : ReadTerm → Result Clause ClauseCause → Result Item LoadCause
clause_from read (Err c) = Err (cause.Clause c)
clause_from read (Ok clause) = Ok (item.Clause read)

-- a directive `:- D`; no directive `?- D` is taken; else a clause
abbrev pub said_from : List ℕ → Table → ReadTerm → Option Term → Option Term → Result Said LoadCause
said_from own table read (Some directive) query = directive_of own table directive
said_from own table read None (Some query) = Err cause.BadDirective
said_from own table read None None = with_item table (clause_from read (clause_of own [] read))

-- what a term behind the first one says in a module of this name, or why it is refused
abbrev pub said_by : List ℕ → Table → ReadTerm → Result Said LoadCause
said_by own table read = said_from own table read (one_argument (codes ":-") read.term) (one_argument (codes "?-") read.term)
