-- Kinds of operators (ISO/IEC 13211-1:1995, 6.3.4.1): what they take on their two sides, and their classes.
use Rattle.std.specs.Prelude.{Bool, true, false}
use Rattle.plai_reader.specs.declared.operator.OpKind.{OpKind}
use Rattle.plai_reader.specs.declared.operator.OpKind.TheVariants.{Xfx, Xfy, Yfx, Fx, Fy, Xf, Yf}
use Rattle.plai_reader.specs.declared.operator.Side.{Side}
use Rattle.plai_reader.specs.declared.operator.Side.TheVariants.{Nothing, Below, UpTo}
use Rattle.plai_reader.specs.declared.operator.Class.{Class}
use Rattle.plai_reader.specs.declared.operator.Class.TheVariants.{Prefix, Infix, Postfix}

abbrev pub left_of : OpKind → Side
left_of Xfx = Below
left_of Xfy = Below
left_of Yfx = UpTo
left_of Fx = Nothing
left_of Fy = Nothing
left_of Xf = Below
left_of Yf = UpTo

abbrev pub right_of : OpKind → Side
right_of Xfx = Below
right_of Xfy = UpTo
right_of Yfx = Below
right_of Fx = Below
right_of Fy = UpTo
right_of Xf = Nothing
right_of Yf = Nothing

-- xfy and fy
abbrev pub leans_right : OpKind → Bool
leans_right Xfy = true
leans_right Fy = true
leans_right _ = false

abbrev pub is_postfix : OpKind → Bool
is_postfix Xf = true
is_postfix Yf = true
is_postfix _ = false

abbrev pub class_of : OpKind → Class
class_of Xfx = Infix
class_of Xfy = Infix
class_of Yfx = Infix
class_of Fx = Prefix
class_of Fy = Prefix
class_of Xf = Postfix
class_of Yf = Postfix
