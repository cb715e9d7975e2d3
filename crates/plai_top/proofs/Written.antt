-- Blocks that are written one by one are the blocks of a call.
use Rattle.std.proofs.Common.{◌≡◌, ◌≢◌, ℕ, zero, suc, ◌+◌, Bool, true, false, ◌&&◌, cond, List, [], ◌∷◌, ◌++◌, None, Some, Result, Ok, Err, IfOk, length, take}
use Rattle.std.proofs.Common.{refl, sym, ◌∙◌, ap, subst, inl, inr, arith}
use Rattle.std.proofs.Math.Seq.{take-append_seam, take-append-add}
use Rattle.std.proofs.lemmas.List.{append-nil, append_assoc, length-append}
use Rattle.std.proofs.lemmas.List.Folds.{list_all-append}
use Rattle.std.proofs.lemmas.List.Elements.{All-push, All-nil}
use Rattle.std.specs.List.{list_all}
use Rattle.std.specs.Io.KnownBytes.{Appends, Keeps}
use Rattle.std.specs.declared.option.Option.{Option}
use Rattle.plai_domain.specs.Plain.{PlainDomain}
use Rattle.plai_clauses.specs.Program.{ProgramView}
use Rattle.plai_clauses.specs.WellFormed.{IsWellFormed}
use Rattle.plai_clauses.specs.declared.edit_cause.EditCause.{EditCause}
use Rattle.plai_top.specs.Blocks.{Block, table, refused, stopped, text_of, texts_from, is_table, IsBlockOf, AreBlocksOf, no_more, one_more, IsTextOfFirst}
use Rattle.plai_top.specs.Working.{Span, kept_by, kept_behind_all, IsIdle, AreJoined, IsWorked, AreWorked, none_worked, IsLastWorked, is_unwritten, AllWorked, FirstWorked}
use Rattle.plai_top.specs.Writing.{WritesBlock, AreFormed, Wrote, WritesBlocks}
use Rattle.plai_top.specs.declared.form.Form.{Form}
use Rattle.plai_top.specs.declared.form.Form.TheVariants.{Tables, Counts}
use Rattle.plai_top.specs.declared.stop.Stop.{Stop}
use Rattle.plai_top.specs.declared.stop.Stop.TheVariants.{WriteFault}
use Rattle.plai_top.proofs.Spans.{worked_more, kept_more}

-- ---- bytes

pub appends_then : (before between behind_it : Option (List ℕ)) (xs ys : List ℕ) → Appends before between xs → Appends between behind_it ys
    → Appends before behind_it (xs ++ ys)
appends_then None between behind_it xs ys one two = tt
appends_then (Some a) None behind_it xs ys one two = absurd one
appends_then (Some a) (Some b) None xs ys one two = absurd two
appends_then (Some a) (Some b) (Some c) xs ys one two = two ∙ ap (λ l. l ++ ys) one ∙ append_assoc a xs ys

kept_appends : (before after : Option (List ℕ)) → Keeps before after → Appends before after []
kept_appends None after same = tt
kept_appends (Some a) None same = absurd same
kept_appends (Some a) (Some b) same = same ∙ sym (append-nil a)

pub nothing_more : (taken : Option (List ℕ)) → Appends taken taken []
nothing_more None = tt
nothing_more (Some bytes) = sym (append-nil bytes)

not_empty : (x : ℕ) (xs : List ℕ) → (x ∷ xs) ≢ []
not_empty x xs e = cc

-- the first bytes of a text are the first bytes of it with more behind
prefix_of : (n : ℕ) (xs ys : List ℕ) → (m : ℕ) × (take m (xs ++ ys) ≡ take n xs)
prefix_of zero xs ys = (0, refl)
prefix_of (suc n) [] ys = (0, refl)
prefix_of (suc n) (x ∷ xs) ys = let (m, is) = prefix_of n xs ys in (suc m, ap (λ l. x ∷ l) is)

module _ (before after : Option (List ℕ)) (text rest whole : List ℕ) (parts : whole ≡ text ++ rest) where
  -- what is a prefix of a text, or all of it, is a prefix of it with more behind
  pub prefix_extends : ((n : ℕ) × Appends before after (take n text)) → (m : ℕ) × Appends before after (take m whole)
  prefix_extends (n, took) = let (m, same) = prefix_of n text rest in (m, subst (Appends before after) (sym (ap (take m) parts ∙ same)) took)

  pub all_extends : Appends before after text → (m : ℕ) × Appends before after (take m whole)
  all_extends took = (length text, subst (Appends before after) (sym (ap (take (length text)) parts ∙ take-append_seam text rest)) took)

-- ---- texts of blocks

pub texts_join : (form : Form) (number : ℕ) (blocks others : List Block)
    → texts_from form number (blocks ++ others) ≡ texts_from form number blocks ++ texts_from form (number + length blocks) others
texts_join form number [] others = ap (λ n. texts_from form n others) (omega arith)
texts_join form number (block ∷ blocks) others =
    ap (λ l. text_of form number block ++ l)
    (texts_join form (number + 1) blocks others ∙ ap (λ n. texts_from form (number + 1) blocks ++ texts_from form n others) (omega arith))
    ∙ sym (append_assoc (text_of form number block) (texts_from form (number + 1) blocks) (texts_from form (number + length (block ∷ blocks)) others))

pub texts_behind : (form : Form) (blocks others : List Block)
    → texts_from form 0 (blocks ++ others) ≡ texts_from form 0 blocks ++ texts_from form (length blocks) others
texts_behind form blocks others = texts_join form 0 blocks others ∙ ap (λ n. texts_from form 0 blocks ++ texts_from form n others) (omega arith)

-- they have bytes
block_not_empty : (form : Form) (number : ℕ) (block : Block) (more : List ℕ) → text_of form number block ++ more ≢ []
block_not_empty Tables number (table rows checks verdicts) more = not_empty _ _
block_not_empty Tables number (refused cause) more = not_empty _ _
block_not_empty Tables number (stopped limit) more = not_empty _ _
block_not_empty Counts number (table rows checks verdicts) more = not_empty _ _
block_not_empty Counts number (refused cause) more = not_empty _ _
block_not_empty Counts number (stopped limit) more = not_empty _ _

pub blocks_not_empty : (form : Form) (blocks : List Block) → blocks ≢ [] → texts_from form 0 blocks ≢ []
blocks_not_empty form [] some = absurd (some refl)
blocks_not_empty form (block ∷ blocks) some = block_not_empty form 0 block (texts_from form 1 blocks)

one_more_is_some : (blocks : List Block) (block : Block) → (blocks ++ block ∷ []) ≢ []
one_more_is_some [] block e = let wrong : (block ∷ []) ≡ [] = e in cc
one_more_is_some (first ∷ blocks) block e = let wrong : (first ∷ (blocks ++ block ∷ [])) ≡ [] = e in cc

module _ (p : PlainDomain) (limit : ℕ) where
  blocks_join : (gs hs : List (Result ProgramView EditCause)) (bs cs : List Block) → AreBlocksOf p limit gs bs → AreBlocksOf p limit hs cs
      → AreBlocksOf p limit (gs ++ hs) (bs ++ cs)
  blocks_join gs hs bs cs no_more two = two
  blocks_join gs hs bs cs (one_more g b fs ds is are) two = one_more g b (fs ++ hs) (ds ++ cs) is (blocks_join fs hs ds cs are two)

  later_blocks : (gs hs : List (Result ProgramView EditCause)) (bs : List Block) → AreBlocksOf p limit (gs ++ hs) bs
      → (cs : List Block) × AreBlocksOf p limit hs cs
  later_blocks [] hs bs are = (bs, are)
  later_blocks (g ∷ gs) hs bs (one_more _ b _ ds is are) = later_blocks gs hs ds are

  one_alone : (g : Result ProgramView EditCause) (b : Block) → IsBlockOf p limit g b → AreBlocksOf p limit (g ∷ []) (b ∷ [])
  one_alone g b is = one_more g b [] [] is no_more

  module _ (form : Form) (givens : List (Result ProgramView EditCause)) (before : Option (List ℕ)) where
    pub nothing_written : Appends before before [] → (span : Span) → IsIdle span → Wrote form p limit givens before before span givens None 0 true
    nothing_written none span idle = record {
      earlier = [];
      written = [];
      parts = refl;
      are = no_more;
      bytes = none;
      formed =
          All-nil (λ given. IfOk given IsWellFormed);
      count = refl;
      tables = refl;
      worked = none_worked None 0 span idle;
      keeps = refl;
    }

    module _ (now : Option (List ℕ)) (span : Span) (given : Result ProgramView EditCause) (left : List (Result ProgramView EditCause))
        (was : Option ProgramView) (number : ℕ) (are_tables : Bool) (wrote : Wrote form p limit givens before now span (given ∷ left) was number are_tables) where
      -- one block more
      pub wrote_more : IfOk given IsWellFormed → (next : Option (List ℕ)) (last whole : Span) (shows : Bool)
          → WritesBlock form p limit was number given last now next (Ok shows) → AreJoined span last whole
          → (keeps : Option ProgramView) → keeps ≡ kept_by was given shows
          → Wrote form p limit givens before next whole left keeps (number + 1) (are_tables && shows)
      wrote_more own_form next last whole shows (text, is, took) joined keeps same = record {
        earlier = wrote.earlier ++ given ∷ [];
        written = wrote.written ++ is.own.block ∷ [];
        parts = wrote.parts ∙ sym (append_assoc wrote.earlier (given ∷ []) left);
        are = blocks_join wrote.earlier (given ∷ []) wrote.written (is.own.block ∷ []) wrote.are (one_alone given is.own.block is.own.is_block);
        bytes =
            let own : text ≡ text_of form number is.own.block ++ [] = is.is_text ∙ sym (append-nil (text_of form number is.own.block)) in
            let numbered : text ≡ texts_from form (length wrote.written) (is.own.block ∷ []) =
            own ∙ ap (λ n. texts_from form n (is.own.block ∷ [])) (sym wrote.count) in
            subst (Appends before next) (ap (λ l. texts_from form 0 wrote.written ++ l) numbered ∙ sym (texts_behind form wrote.written (is.own.block ∷ [])))
            (appends_then before now next (texts_from form 0 wrote.written) text wrote.bytes took);
        formed = All-push (λ g. IfOk g IsWellFormed) wrote.earlier given wrote.formed own_form;
        count = length-append wrote.written (is.own.block ∷ []) ∙ ap (λ n. n + 1) wrote.count;
        tables = ap (λ b. b && shows) wrote.tables ∙ ap (λ b. list_all is_table wrote.written && b) (sym (alone is.own.block shows is.own.shows))
            ∙ sym (list_all-append is_table wrote.written (is.own.block ∷ []));
        worked =
            let e : number ≡ 0 + length wrote.written = omega (arith, wrote.count) in
            let own : IsWorked p limit (kept_behind_all None wrote.earlier wrote.written) number given is.own.block last =
            subst (λ w. IsWorked p limit w number given is.own.block last) (sym wrote.keeps) is.own.worked in
            worked_more p limit None 0 wrote.earlier wrote.written span wrote.worked given is.own.block last
            (subst (λ n. IsWorked p limit (kept_behind_all None wrote.earlier wrote.written) n given is.own.block last) e own) whole joined;
        keeps = kept_more p limit None 0 wrote.earlier wrote.written span wrote.worked given is.own.block
            ∙ ap (λ w. kept_by w given (is_table is.own.block)) wrote.keeps ∙ ap (kept_by was given) is.own.shows ∙ sym same;
      }
        where
          alone : (b : Block) (s : Bool) → is_table b ≡ s → list_all is_table (b ∷ []) ≡ s
          alone b true e = ap (λ x. x && true) e
          alone b false e = ap (λ x. x && true) e

      -- a write failed within the block
      cut_within : (next : Option (List ℕ)) (stop : Stop) → stop ≡ WriteFault → (block : Block) → IsBlockOf p limit given block
          → (n : ℕ) → Appends now next (take n (text_of form number block)) → WritesBlocks form p limit givens before next (Err stop)
      cut_within next stop fault block is n took =
          let them : List Block = wrote.written ++ block ∷ [] in
          let head : List ℕ = texts_from form 0 wrote.written in
          let own : List ℕ = text_of form number block in
          let numbered : texts_from form (length wrote.written) (block ∷ []) ≡ own ++ [] = ap (λ k. texts_from form k (block ∷ [])) wrote.count in
          let whole : texts_from form 0 them ≡ head ++ own =
          texts_behind form wrote.written (block ∷ []) ∙ ap (λ l. head ++ l) (numbered ∙ append-nil own) in
          let cut : take (length head + n) (texts_from form 0 them) ≡ head ++ take n own = ap (take (length head + n)) whole ∙ take-append-add head own n in (
            texts_from form 0 them,
            record {
              first = wrote.earlier ++ given ∷ [];
              others = left;
              parts = wrote.parts ∙ sym (append_assoc wrote.earlier (given ∷ []) left);
              blocks = them;
              are = blocks_join wrote.earlier (given ∷ []) wrote.written (block ∷ []) wrote.are (one_alone given block is);
              is_text = refl;
            },
            inr (
              fault,
              blocks_not_empty form them (one_more_is_some wrote.written block),
              (length head + n, subst (Appends before next) (sym cut) (appends_then before now next head (take n own) wrote.bytes took)),
            ),
          )

      stopped_behind : (next : Option (List ℕ)) (last whole : Span) (text : List ℕ) → AreJoined span last whole
          → IsLastWorked form p limit was number given last text → Appends now next text → FirstWorked form p limit givens before next whole
      stopped_behind next last whole text joined worked took = record {
        first = wrote.earlier;
        next = given;
        others = left;
        parts = wrote.parts;
        blocks = wrote.written;
        are = wrote.are;
        earlier = span;
        worked = wrote.worked;
        last = last;
        text = text;
        last_worked = subst (λ n. IsLastWorked form p limit (kept_behind_all None wrote.earlier wrote.written) n given last text) (sym wrote.count)
            (subst (λ w. IsLastWorked form p limit w number given last text) (sym wrote.keeps) worked);
        joined = joined;
        bytes = appends_then before now next (texts_from form 0 wrote.written) text wrote.bytes took;
      }

      pub wrote_stops : (next : Option (List ℕ)) (last : Span) (stop : Stop) → WritesBlock form p limit was number given last now next (Err stop)
          → WritesBlocks form p limit givens before next (Err stop)
      wrote_stops next last stop (inl (memory, same, worked)) =
          let head : List ℕ = texts_from form 0 wrote.written in
          let took : Appends before next (head ++ []) = appends_then before now next head [] wrote.bytes (kept_appends now next same) in (
            head,
            record { first = wrote.earlier; others = given ∷ left; parts = wrote.parts; blocks = wrote.written; are = wrote.are; is_text = refl },
            inl (memory, subst (Appends before next) (append-nil head) took),
          )
      wrote_stops next last stop (inr (fault, (text, shows, is, (n, took)))) =
          cut_within next stop fault is.own.block is.own.is_block n (subst (λ l. Appends now next (take n l)) is.is_text took)

      -- the work of blocks that were not all written
      pub works_stop : (next : Option (List ℕ)) (last whole : Span) (stop : Stop) → WritesBlock form p limit was number given last now next (Err stop)
          → AreJoined span last whole → FirstWorked form p limit givens before next whole
      works_stop next last whole stop (inl (memory, same, worked)) joined =
          stopped_behind next last whole [] joined worked (kept_appends now next same)
      works_stop next last whole stop (inr (fault, (text, shows, is, (n, took)))) joined =
          stopped_behind next last whole (take n (text_of form number is.own.block)) joined (is_unwritten is.own.block n is.own.is_block is.own.worked)
          (subst (λ l. Appends now next (take n l)) is.is_text took)

    -- other blocks of all of these complete those of the first
    pub first_extend : (text : List ℕ) → IsTextOfFirst form p limit givens text → (others : List Block) → AreBlocksOf p limit givens others
        → (blocks : List Block) × AreBlocksOf p limit givens blocks × ((rest : List ℕ) × (texts_from form 0 blocks ≡ text ++ rest))
    first_extend text is others are =
        let (tail, tails) = later_blocks is.first is.others others (subst (λ gs. AreBlocksOf p limit gs others) is.parts are) in
        let blocks : List Block = is.blocks ++ tail in
        let rest : List ℕ = texts_from form (length is.blocks) tail in (
          blocks,
          subst (λ gs. AreBlocksOf p limit gs blocks) (sym is.parts) (blocks_join is.first is.others is.blocks tail is.are tails),
          (rest, texts_behind form is.blocks tail ∙ ap (λ l. l ++ rest) (sym is.is_text)),
        )

    module _ (now : Option (List ℕ)) (span : Span) (was : Option ProgramView) (number : ℕ) (are_tables : Bool)
        (wrote : Wrote form p limit givens before now span [] was number are_tables) where
      all_parts : givens ≡ wrote.earlier
      all_parts = wrote.parts ∙ append-nil wrote.earlier

      pub wrote_all : WritesBlocks form p limit givens before now (Ok (cond are_tables 0 1))
      wrote_all = record {
        blocks = wrote.written;
        are = subst (λ gs. AreBlocksOf p limit gs wrote.written) (sym all_parts) wrote.are;
        formed = subst AreFormed (sym all_parts) wrote.formed;
        is_status = ap (λ b. cond b 0 1) wrote.tables;
        bytes = wrote.bytes;
      }

      pub works_all : AllWorked form p limit givens before now span (cond are_tables 0 1)
      works_all = record {
        blocks = wrote.written;
        are = subst (λ gs. AreBlocksOf p limit gs wrote.written) (sym all_parts) wrote.are;
        is_status = ap (λ b. cond b 0 1) wrote.tables;
        bytes = wrote.bytes;
        worked = subst (λ gs. AreWorked p limit None 0 gs wrote.written span) (sym all_parts) wrote.worked;
      }
