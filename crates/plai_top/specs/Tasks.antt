-- The domain of an analysis: groundness (Marriott and Sondergaard 1993), sharing with freeness (Jacobs and Langen 1992),
-- or terms cut at a depth (Sato and Tamaki 1984).
use Rattle.plai_domain.specs.Plain.{PlainDomain}
use Rattle.plai_pos_laws.specs.Groundness.{groundness}
use Rattle.plai_share_laws.specs.Sharing.{sharing}
use Rattle.plai_depth_laws.specs.DepthK.{depth_k}
use Rattle.plai_words.specs.declared.types.DomainName.TheVariants.{Ground, Share, Depth}
use Rattle.plai_words.specs.declared.types.DomainName.{DomainName}
use Rattle.plai_words.specs.declared.types.Settings.{Settings}
use Rattle.plai_top.specs.declared.task.Task.{Task}
use Rattle.plai_top.specs.declared.form.Form.{Form}
use Rattle.plai_top.specs.declared.form.Form.TheVariants.{Tables, Counts}
use Rattle.std.specs.Prelude.{ℕ, Option, None, Some}

-- the domain of this name; only the last looks at the depth
abbrev pub domain_named : DomainName → ℕ → PlainDomain
domain_named Ground depth = groundness
domain_named Share depth = sharing
domain_named Depth depth = depth_k depth

-- the domain of an analysis
abbrev pub domain_of : Task → PlainDomain
domain_of task = domain_named task.domain task.depth

-- a made program's blocks are lines that count rows
abbrev pub form_by : Option ℕ → Form
form_by None = Tables
form_by (Some count) = Counts

abbrev pub form_of : Settings → Form
form_of settings = form_by settings.make

-- the analysis that settings ask for
abbrev pub task_of : Settings → Task
task_of settings = record { domain = settings.domain; depth = settings.depth; rows = settings.rows; form = form_of settings }
