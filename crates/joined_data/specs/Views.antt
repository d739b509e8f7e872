-- The views: which row each row of the code stands for.
use Rattle.std.specs.Prelude.{Option, Some, None, map}
use Rattle.joined_core.specs.Rows as core
use Rattle.joined_module.specs.Rows as rows
use Rattle.joined_data.specs.declared.rows.Origin.{Origin}
use Rattle.joined_data.specs.declared.rows.Origin.TheVariants as origin
use Rattle.joined_data.specs.declared.rows.Operand.{Operand}
use Rattle.joined_data.specs.declared.rows.Operand.TheVariants as operand
use Rattle.joined_data.specs.declared.rows.Worth.{Worth}
use Rattle.joined_data.specs.declared.rows.Worth.TheVariants as worth
use Rattle.joined_data.specs.declared.rows.Sees.{Sees}
use Rattle.joined_data.specs.declared.rows.Sees.TheVariants as sees
use Rattle.joined_data.specs.declared.rows.Site.{Site}
use Rattle.joined_data.specs.declared.rows.Site.TheVariants as site
use Rattle.joined_data.specs.declared.rows.Deed.{Deed}
use Rattle.joined_data.specs.declared.rows.Deed.TheVariants as deed
use Rattle.joined_data.specs.declared.rows.Row.{Row}

-- where a pointer comes from
abbrev pub origin_view : Origin → rows.From
origin_view (origin.Sig i) = rows.from_sig i
origin_view (origin.Boxed i) = rows.from_box i
origin_view (origin.Fork i) = rows.from_fork i
origin_view (origin.Word i) = rows.from_word i
origin_view (origin.SigPart t) = rows.part_of_sig t
origin_view (origin.BoxPart t) = rows.part_of_box t
origin_view (origin.New t) = rows.from_new t
origin_view (origin.Bare t) = rows.from_none t

-- one, if there is one
abbrev pub origin_if : Option Origin → Option rows.From
origin_if None = None
origin_if (Some s) = Some (origin_view s)

-- an operand
abbrev pub operand_view : Operand → rows.Operand
operand_view operand.Value = rows.the_value
operand_view operand.Kept = rows.the_kept
operand_view (operand.Literal n) = rows.a_literal n
operand_view (operand.Port i) = rows.a_port i

abbrev pub operand_if : Option Operand → Option rows.Operand
operand_if None = None
operand_if (Some x) = Some (operand_view x)

-- the value after a row
abbrev pub worth_view : Worth → rows.Worth
worth_view worth.Stays = rows.stays
worth_view (worth.Tells x) = rows.tells (operand_view x)
worth_view (worth.ComesTo o x y) = rows.comes_to o (operand_view x) (operand_view y)

-- what is seen
abbrev pub sees_view : Sees → rows.Sees
sees_view sees.Nothing = rows.sees_nothing
sees_view (sees.Tag t) = rows.sees_tag t
sees_view (sees.Zero b) = rows.sees_zero b

-- what is looked at
abbrev pub site_view : Site → core.Site
site_view site.Nowhere = core.nowhere
site_view site.OnSigs = core.on_sigs
site_view site.OnBoxes = core.on_boxes
site_view site.OnValue = core.on_value

-- what is done with forks
abbrev pub deed_view : Deed → rows.ForkDeed
deed_view deed.Leaves = rows.no_fork
deed_view (deed.Opens l b k) = rows.opens (map origin_view l.now) b (operand_if k)
deed_view (deed.Keeps x) = rows.keeps (operand_view x)
deed_view deed.Closes = rows.closes

-- a row
abbrev pub row_view : Row → rows.ModuleRow
row_view r = record {
  key = r.key;
  waits = r.waits;
  sees = sees_view r.sees;
  to = r.to;
  site = site_view r.site;
  moves = r.moves;
  ends = r.ends;
  makes = r.makes;
  words = map origin_view r.words.now;
  sigs = map origin_view r.sigs.now;
  boxes = map origin_view r.boxes.now;
  fork = deed_view r.fork;
  worth = worth_view r.worth;
}
